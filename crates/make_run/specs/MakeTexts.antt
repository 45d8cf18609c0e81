-- What `make` prints: five lines.
use Rattle.std.specs.Prelude.{ℕ, List, ◌++◌, codes}
use Rattle.std.specs.Fmt.{decimal}
use Rattle.make_run.specs.Lines.{line, word_text}

-- the numbers in these lines
pub record MakeTally : Type 0 where
  pub functions : ℕ
  pub old_bytes : ℕ
  pub new_bytes : ℕ
  pub factor : ℕ
  pub steps : ℕ
  pub r0 : ℕ
  pub hard_steps : ℕ
  pub skips : ℕ
  pub hard_r0 : ℕ

abbrev pub made_line : MakeTally → List ℕ
made_line t = line (codes "made " ++ decimal t.functions ++ codes " functions, " ++ decimal t.old_bytes ++ codes " bytes of code")

abbrev pub hardened_line : MakeTally → List ℕ
hardened_line t = line (codes "hardened " ++ decimal t.new_bytes ++ codes " bytes of code, factor " ++ decimal t.factor)

abbrev pub plain_run_line : MakeTally → List ℕ
plain_run_line t = line (codes "plain " ++ decimal t.steps ++ codes " steps, r0 " ++ word_text t.r0)

abbrev pub hardened_run_line : MakeTally → List ℕ
hardened_run_line t =
    line (codes "hardened " ++ decimal t.hard_steps ++ codes " steps, " ++ decimal t.skips ++ codes " skips, r0 " ++ word_text t.hard_r0)

-- both runs end alike: no other last line is ever printed
abbrev pub same_line : List ℕ
same_line = line (codes "same yes")

abbrev pub make_report : MakeTally → List ℕ
make_report t = made_line t ++ hardened_line t ++ plain_run_line t ++ hardened_run_line t ++ same_line
