-- Steps stand in a code, each of its copies with its goal reached.
use Rattle.std.proofs.Common.{◌≡◌, ◌≤◌, ℕ, zero, suc, ◌+◌, List, [], ◌∷◌, ◌++◌, map, take, drop, replicate, length, refl, sym, ap, ◌∙◌, subst, arith, Some, Ok, append_assoc}
use Rattle.std.specs.Prelude.{slice_get, ⊤}
use Rattle.std.proofs.lemmas.Option.{none-some, same_Some}
use Rattle.std.proofs.lemmas.List.{length-append, length-replicate}
use Rattle.std.proofs.lemmas.List.Sums.{sum_by-cons}
use Rattle.thumb_instr.specs.declared.refusals.ItPlace.TheVariants.{Outside}
use Rattle.thumb_instr.specs.declared.instructions.Instr.{Instr}
use Rattle.thumb_instr.specs.Rows.{decode}
use Rattle.thumb_encode.specs.declared.codes.Code.{Code}
use Rattle.thumb_encode.specs.Encoding.{width_of}
use Rattle.thumb_table.specs.Parts.{CodeBytes}
use Rattle.thumb_table.specs.Steps.{Fetched, fetch}
use Rattle.seq_core.specs.declared.steps.Step.{Step}
use Rattle.seq_core.specs.Denoted.{Spots, Reached, StepCopies, StepsStand}
use Rattle.branch_layout.specs.Copies.{copies_of, bytes_of, bytes_before}
use Rattle.emit_object.specs.UnitCopies.{Copy, copies_from}

-- an instruction of so many bytes stands at an address, and reaches the step's goal
pub record Stood (code : CodeBytes) (p : Spots) (a wide : ℕ) (s : Step) : Type 0 where
  pub fetched : Fetched
  pub there : fetch code a ≡ Some fetched
  pub width : fetched.width ≡ wide
  pub instr : Instr
  pub means : decode Outside fetched.first fetched.second ≡ Ok instr
  pub reached : Reached (record { code = code; address = a; width = fetched.width }) p s.goal s.instr instr

abbrev pub bytes : Code → ℕ
bytes c = bytes_of (width_of c)

-- what holds of each copy, at its place
abbrev pub AllCopies : (ℕ → Step → Code → Type 0) → ℕ → List Step → List Code → Type 0
AllCopies R at [] cs = ⊤
AllCopies R at (t ∷ ts) [] = ⊥
AllCopies R at (t ∷ ts) (c ∷ cs) = R at t c × AllCopies R (at + bytes c) ts cs

-- from where so many copies end
abbrev pub after : ℕ → ℕ → List Code → ℕ
after zero at cs = at
after (suc n) at [] = at
after (suc n) at (c ∷ cs) = after n (at + bytes c) cs

abbrev pub after_steps : List Step → ℕ → List Code → ℕ
after_steps [] at cs = at
after_steps (s ∷ ss) at cs = after_steps ss (after s.copies at cs) (drop s.copies cs)

-- BY NUMBERS

pub each_copy : (R : ℕ → Step → Code → Type 0) (at : ℕ) (ts : List Step) (cs : List Code) → length ts ≤ length cs
    → ((j : ℕ) (y : Copy) → slice_get (copies_from at ts cs) j ≡ Some y → R y.at y.step y.code) → AllCopies R at ts cs
each_copy R at [] cs le all = tt
each_copy R at (t ∷ ts) [] le all = absurd (omega arith)
each_copy R at (t ∷ ts) (c ∷ cs) le all = (all 0 (record { at = at; step = t; code = c }) refl, each_copy R (at + bytes c) ts cs (omega arith) (λ j y e. all (suc j) y e))

-- the copy with a number
pub record IsCopyAt (from : ℕ) (ts : List Step) (cs : List Code) (j : ℕ) (y : Copy) : Type 0 where
  pub step : slice_get ts j ≡ Some y.step
  pub code : slice_get cs j ≡ Some y.code
  pub at : y.at ≡ from + bytes_before (map width_of cs) j

pub copy_at : (at : ℕ) (ts : List Step) (cs : List Code) (j : ℕ) (y : Copy) → slice_get (copies_from at ts cs) j ≡ Some y → IsCopyAt at ts cs j y
copy_at at [] cs j y e = absurd (none-some y e)
copy_at at (t ∷ ts) [] j y e = absurd (none-some y e)
copy_at at (t ∷ ts) (c ∷ cs) zero y e =
    let same : record { at = at; step = t; code = c } ≡ y = same_Some (record { at = at; step = t; code = c }) y e in
    let zero_bytes : at ≡ at + bytes_before (map width_of (c ∷ cs)) 0 = omega arith in
    record { step = ap (λ (z : Copy). Some z.step) same; code = ap (λ (z : Copy). Some z.code) same; at = ap (λ (z : Copy). z.at) (sym same) ∙ zero_bytes }
copy_at at (t ∷ ts) (c ∷ cs) (suc j) y e =
    let rest = copy_at (at + bytes c) ts cs j y e in
    let more : bytes_before (map width_of (c ∷ cs)) (suc j) ≡ bytes c + bytes_before (map width_of cs) j = sum_by-cons bytes_of (width_of c) (take j (map width_of cs)) in
    let there = rest.at in
    record { step = rest.step; code = rest.code; at = omega arith }

-- IN PARTS

pub first_copies : (R : ℕ → Step → Code → Type 0) (at : ℕ) (ts us : List Step) (cs : List Code) → AllCopies R at (ts ++ us) cs → AllCopies R at ts cs
first_copies R at [] us cs all = tt
first_copies R at (t ∷ ts) us [] all = absurd all
first_copies R at (t ∷ ts) us (c ∷ cs) all = (all.0, first_copies R (at + bytes c) ts us cs all.1)

copies_append : (ss ts : List Step) → copies_of (ss ++ ts) ≡ copies_of ss ++ copies_of ts
copies_append [] ts = refl
copies_append (s ∷ ss) ts = ap (λ (l : List Step). replicate s.copies s ++ l) (copies_append ss ts) ∙ sym (append_assoc (replicate s.copies s) (copies_of ss) (copies_of ts))

take_then : (n : ℕ) (ss : List Step) → take n ss ++ drop n ss ≡ ss
take_then zero ss = refl
take_then (suc n) [] = refl
take_then (suc n) (s ∷ ss) = ap (λ (l : List Step). s ∷ l) (take_then n ss)

pub front_copies : (R : ℕ → Step → Code → Type 0) (at n : ℕ) (ss : List Step) (cs : List Code) → AllCopies R at (copies_of ss) cs → AllCopies R at (copies_of (take n ss)) cs
front_copies R at n ss cs all =
    first_copies R at (copies_of (take n ss)) (copies_of (drop n ss)) cs
    (subst (λ (l : List Step). AllCopies R at l cs) (ap copies_of (sym (take_then n ss)) ∙ copies_append (take n ss) (drop n ss)) all)

-- THEY STAND

module _ (code : CodeBytes) (p : Spots) (start c : ℕ) (link : Step → Step) (R : ℕ → Step → Code → Type 0) (stood : (at : ℕ) (t : Step) (d : Code) → R at t d → Stood code p (start + at) (bytes d) (link t)) where
  copies_stand : (n : ℕ) (s : Step) (rest : List Step) (at : ℕ) (cs : List Code) → AllCopies R at (replicate n s ++ rest) cs
      → StepCopies code n p (link s) (start + at) (start + after n at cs) × AllCopies R (after n at cs) rest (drop n cs)
  copies_stand zero s rest at cs all = (refl, all)
  copies_stand (suc n) s rest at [] all = absurd all
  copies_stand (suc n) s rest at (d ∷ cs) all =
      let one = stood at s d all.0 in
      let more = copies_stand n s rest (at + bytes d) cs all.1 in
      let wide : one.fetched.width ≡ bytes d = one.width in
      let next : start + (at + bytes d) ≡ start + at + one.fetched.width = omega arith in
      ((one.fetched, one.instr, one.there, one.means, one.reached, subst (λ (a : ℕ). StepCopies code n p (link s) a (start + after n (at + bytes d) cs)) next more.0), more.1)

  pub steps_stand : (ss : List Step) (at : ℕ) (cs : List Code) → ((j : ℕ) (s : Step) → slice_get ss j ≡ Some s → ((link s).copies ≡ c) × (s.copies ≡ c)) → AllCopies R at (copies_of ss) cs
      → StepsStand code c p (map link ss) (start + at) (start + after_steps ss at cs)
  steps_stand [] at cs many all = refl
  steps_stand (s ∷ ss) at cs many all =
      let count = many 0 s refl in
      let both = copies_stand s.copies s (copies_of ss) at cs all in (
        count.0,
        start + after s.copies at cs,
        subst (λ (n : ℕ). StepCopies code n p (link s) (start + at) (start + after s.copies at cs)) count.1 both.0,
        steps_stand ss (after s.copies at cs) (drop s.copies cs) (λ j t e. many (suc j) t e) both.1,
      )

-- WHERE THEY END

after_is : (n at : ℕ) (cs : List Code) → after n at cs ≡ at + bytes_before (map width_of cs) n
after_is zero at cs = omega arith
after_is (suc n) at [] = omega arith
after_is (suc n) at (c ∷ cs) =
    let more : bytes_before (map width_of (c ∷ cs)) (suc n) ≡ bytes c + bytes_before (map width_of cs) n = sum_by-cons bytes_of (width_of c) (take n (map width_of cs)) in
    let rest = after_is n (at + bytes c) cs in
    omega arith

after_none : (n at : ℕ) → after n at [] ≡ at
after_none zero at = refl
after_none (suc n) at = refl

after_parts : (n m k at : ℕ) (cs : List Code) → k ≡ n + m → after k at cs ≡ after m (after n at cs) (drop n cs)
after_parts zero m k at cs e = let f : k ≡ m = omega arith in ap (λ (i : ℕ). after i at cs) f
after_parts (suc n) m k at [] e = after_none k at ∙ sym (after_none m at)
after_parts (suc n) m zero at (c ∷ cs) e = absurd (omega arith)
after_parts (suc n) m (suc k) at (c ∷ cs) e = after_parts n m k (at + bytes c) cs (omega arith)

after_steps_is : (ss : List Step) (at : ℕ) (cs : List Code) → after_steps ss at cs ≡ after (length (copies_of ss)) at cs
after_steps_is [] at cs = refl
after_steps_is (s ∷ ss) at cs =
    let both : length (copies_of (s ∷ ss)) ≡ length (replicate s.copies s) + length (copies_of ss) = length-append (replicate s.copies s) (copies_of ss) in
    let here : length (replicate s.copies s) ≡ s.copies = length-replicate s.copies s in
    after_steps_is ss (after s.copies at cs) (drop s.copies cs) ∙ sym (after_parts s.copies (length (copies_of ss)) (length (copies_of (s ∷ ss))) at cs (omega arith))

pub steps_end : (ss : List Step) (at : ℕ) (cs : List Code) → after_steps ss at cs ≡ at + bytes_before (map width_of cs) (length (copies_of ss))
steps_end ss at cs = after_steps_is ss at cs ∙ after_is (length (copies_of ss)) at cs

pub copies_from_length : (at : ℕ) (ts : List Step) (cs : List Code) → length ts ≤ length cs → length (copies_from at ts cs) ≡ length ts
copies_from_length at [] cs le = refl
copies_from_length at (t ∷ ts) [] le = absurd (omega arith)
copies_from_length at (t ∷ ts) (c ∷ cs) le = let rest = copies_from_length (at + bytes c) ts cs (omega arith) in omega arith
