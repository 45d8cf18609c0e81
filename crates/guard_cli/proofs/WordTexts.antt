-- Words as they are printed.
use Rattle.std.proofs.Common.{◌≡◌, ℕ, ◌-◌, ◌^◌, false, List, [], ◌++◌, length, replicate, codes, ap, sym, ◌∙◌, arith, append_assoc, ◌∷◌}
use Rattle.std.specs.Fmt.{decimal, padded_integral, char_count, format_spec}
use Rattle.std.proofs.lemmas.List.{append-nil}
use Rattle.std.specs.List.{flat_map}
use Rattle.guard_cli.specs.Texts.{Tally, greatest_factor, line, report, tally_line}

-- what `{:08x}` pads digits to
pub word_shown : (ds : List ℕ) → padded_integral (format_spec 32 0 4 8 (2 ^ 64 - 1)) false [] ds ≡ replicate (8 - length ds) 48 ++ ds
unfolding padded_integral char_count
word_shown ds =
    let e : 8 - length ds - 0 - 0 ≡ 8 - length ds = omega arith in
    rw append-nil (ap (λ (k : ℕ). replicate k 48 ++ ds) e)

-- lines by their parts, as they are written
pub returned_parts : (n w y : List ℕ) → codes "returned after " ++ (n ++ (codes " steps, r0 " ++ (w ++ (codes ", ordinary " ++ (y ++ 10 ∷ [])))))
    ≡ line (codes "returned after " ++ n ++ codes " steps, r0 " ++ w ++ codes ", ordinary " ++ y)
returned_parts n w y = simp append_assoc

pub stopped_parts : (k w n : List ℕ) → codes "stopped " ++ (k ++ (codes " at " ++ (w ++ (codes " after " ++ (n ++ (codes " steps" ++ 10 ∷ []))))))
    ≡ line (codes "stopped " ++ k ++ codes " at " ++ w ++ codes " after " ++ n ++ codes " steps")
stopped_parts k w n = simp append_assoc

pub report_parts : (tallies : List Tally) (lines : List ℕ) (factor : ℕ) → lines ≡ flat_map tally_line tallies → factor ≡ greatest_factor tallies
    → lines ++ (codes "factor " ++ (decimal factor ++ 10 ∷ [])) ≡ report tallies
report_parts tallies lines factor lines_are factor_is =
    ap (λ (l : List ℕ). l ++ (codes "factor " ++ (decimal factor ++ 10 ∷ []))) lines_are
    ∙ ap (λ (n : ℕ). flat_map tally_line tallies ++ (codes "factor " ++ (decimal n ++ 10 ∷ []))) factor_is
    ∙ ap (λ (l : List ℕ). flat_map tally_line tallies ++ l) (sym (append_assoc (codes "factor ") (decimal (greatest_factor tallies)) (10 ∷ [])))
