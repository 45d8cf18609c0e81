-- Words and lines by their parts, as they are written.
use Rattle.std.proofs.Common.{◌≡◌, ℕ, ◌-◌, ◌^◌, false, List, [], ◌∷◌, ◌++◌, length, replicate, codes, ap, arith, append_assoc}
use Rattle.std.specs.Fmt.{padded_integral, char_count, format_spec}
use Rattle.std.proofs.lemmas.List.{append-nil}
use Rattle.make_run.specs.Lines.{line}
use Rattle.make_run.specs.MakeTexts.{same_line}

-- what `{:08x}` pads digits to
pub word_shown : (ds : List ℕ) → padded_integral (format_spec 32 0 4 8 (2 ^ 64 - 1)) false [] ds ≡ replicate (8 - length ds) 48 ++ ds
unfolding padded_integral char_count
word_shown ds =
    let e : 8 - length ds - 0 - 0 ≡ 8 - length ds = omega arith in
    rw append-nil (ap (λ (k : ℕ). replicate k 48 ++ ds) e)

pub plain_parts : (n w : List ℕ) → codes "plain " ++ (n ++ (codes " steps, r0 " ++ (w ++ 10 ∷ []))) ≡ line (codes "plain " ++ n ++ codes " steps, r0 " ++ w)
plain_parts n w = simp append_assoc

pub hardened_parts : (n k w : List ℕ) → codes "hardened " ++ (n ++ (codes " steps, " ++ (k ++ (codes " skips, r0 " ++ (w ++ 10 ∷ [])))))
    ≡ line (codes "hardened " ++ n ++ codes " steps, " ++ k ++ codes " skips, r0 " ++ w)
hardened_parts n k w = simp append_assoc

pub report_parts : (a b c d : List ℕ) → a ++ (b ++ (c ++ (d ++ same_line))) ≡ a ++ b ++ c ++ d ++ same_line
report_parts a b c d = simp append_assoc
