-- The registers that the scratch rule gives are free, and all different.
use Rattle.std.specs.Prelude.{◌≡◌, ◌≤◌, ℕ, zero, suc, ◌==◌, ◌&&◌, ◌||◌, ◌++◌, not, Some, None, nat_lt, Bool, true, false, cond, List, [], ◌∷◌, take, length, refl}
use Rattle.std.specs.List.{filter}
use Rattle.std.specs.Option.{option_to_list}
use Rattle.std.proofs.Common.{arith, sym, ap, ◌∙◌}
use Rattle.std.proofs.lemmas.Bool.{true≢false, ltb-true}
use Rattle.thumb_instr.specs.declared.instructions.Instr.{Instr}
use Rattle.thumb_instr.specs.Sets.{reads_of, writes_of}
use Rattle.thumb_instr.specs.declared.register_sets.RegSet.{RegSet}
use Rattle.thumb_instr.specs.Operands.{has}
use Rattle.thumb_table.specs.Schedules.{is_in}
use Rattle.liveness.specs.Spots.{picked}
use Rattle.seq_core.specs.Builders.{AreFree}
use Rattle.seq_core.specs.Groups.{IsFree}
use Rattle.point_units.specs.Scratch.{order, is_scratch, scratch_of}
use Rattle.point_units.specs.Spots.{free_in}

-- numbers below 13 of which no two are the same
abbrev are_apart : List ℕ → Bool
are_apart [] = true
are_apart (q ∷ qs) = nat_lt q 13 && (not (is_in qs q) && are_apart qs)

both_of : (a b : Bool) → (a && b) ≡ true → (a ≡ true) × (b ≡ true)
both_of true b e = (refl, e)
both_of false b e = absurd (true≢false (sym e))

none_of : (a : Bool) → not a ≡ true → a ≡ false
none_of true e = absurd (true≢false (sym e))
none_of false e = refl

neither_of : (a b : Bool) → (a || b) ≡ false → (a ≡ false) × (b ≡ false)
neither_of true b e = absurd (true≢false e)
neither_of false b e = (refl, e)

-- what is in none of a list is in none of what is taken from its filtered elements
not_in_kept : (v : Bool) (p : ℕ → Bool) (k : ℕ) (ks : List ℕ) (q : ℕ) → (k == q) ≡ false → ((n : ℕ) → is_in (take n (filter p ks)) q ≡ false) → (n : ℕ) → is_in (take n (cond v (k ∷ filter p ks) (filter p ks))) q ≡ false
not_in_kept true p k ks q other more zero = refl
not_in_kept true p k ks q other more (suc n) = ap (λ (b : Bool). b || is_in (take n (filter p ks)) q) other ∙ more n
not_in_kept false p k ks q other more n = more n

not_in : (p : ℕ → Bool) (qs : List ℕ) (q : ℕ) → is_in qs q ≡ false → (n : ℕ) → is_in (take n (filter p qs)) q ≡ false
not_in p [] q e zero = refl
not_in p [] q e (suc n) = refl
not_in p (k ∷ ks) q e n = let h = neither_of (k == q) (is_in ks q) e in not_in_kept (p k) p k ks q h.0 (not_in p ks q h.1) n

free_of : (live : ℕ → Bool) (i : Instr) (q : ℕ) → nat_lt q 13 ≡ true → is_scratch live i q ≡ true → IsFree i q
free_of live i q low e =
    let h = neither_of (live q) (reads_of i q || writes_of i q) (none_of (live q || (reads_of i q || writes_of i q)) e) in
    let g = neither_of (reads_of i q) (writes_of i q) h.1 in
    record { low = ltb-true q 13 low; unread = g.0; unwritten = g.1 }

free_kept : (v : Bool) (live : ℕ → Bool) (i : Instr) (q : ℕ) (qs : List ℕ) → is_scratch live i q ≡ v → nat_lt q 13 ≡ true → is_in qs q ≡ false → ((n : ℕ) → AreFree i (take n (filter (is_scratch live i) qs)))
    → (n : ℕ) → AreFree i (take n (cond v (q ∷ filter (is_scratch live i) qs) (filter (is_scratch live i) qs)))
free_kept true live i q qs f low out more zero = tt
free_kept true live i q qs f low out more (suc n) = (free_of live i q low f, not_in (is_scratch live i) qs q out n, more n)
free_kept false live i q qs f low out more n = more n

all_free : (live : ℕ → Bool) (i : Instr) (qs : List ℕ) → are_apart qs ≡ true → (n : ℕ) → AreFree i (take n (filter (is_scratch live i) qs))
all_free live i [] e zero = tt
all_free live i [] e (suc n) = tt
all_free live i (q ∷ qs) e n =
    let h = both_of (nat_lt q 13) (not (is_in qs q) && are_apart qs) e in
    let g = both_of (not (is_in qs q)) (are_apart qs) h.1 in
    free_kept (is_scratch live i q) live i q qs refl h.0 (none_of (is_in qs q) g.0) (all_free live i qs g.1) n

pub scratch_is_free : (live : ℕ → Bool) (i : Instr) (n : ℕ) → AreFree i (take n (scratch_of live i))
scratch_is_free live i n = all_free live i order refl n

-- there are 13 at most
few_kept : (p : ℕ → Bool) (xs : List ℕ) → length (filter p xs) ≤ length xs
few_kept p [] = omega arith
few_kept p (x ∷ xs) = go (p x) (few_kept p xs)
  where
    go : (v : Bool) → length (filter p xs) ≤ length xs → length (cond v (x ∷ filter p xs) (filter p xs)) ≤ suc (length xs)
    go true h = omega arith
    go false h = omega arith

pub few_scratch : (live : ℕ → Bool) (i : Instr) → length (scratch_of live i) ≤ 13
few_scratch live i = few_kept (is_scratch live i) order

-- what is not busy is what the rule gives
picked_kept : (busy : RegSet) (p : ℕ → Bool) → ((q : ℕ) → has busy.0 q ≡ not (p q)) → (xs : List ℕ) → picked (free_in busy) xs ≡ filter p xs
picked_kept busy p same [] = refl
picked_kept busy p same (x ∷ xs) = go (has busy.0 x) (p x) (same x) (picked_kept busy p same xs)
  where
    go : (b t : Bool) → b ≡ not t → picked (free_in busy) xs ≡ filter p xs → option_to_list (cond b None (Some x)) ++ picked (free_in busy) xs ≡ cond t (x ∷ filter p xs) (filter p xs)
    go true true e rest = absurd (true≢false e)
    go true false e rest = rest
    go false true e rest = ap (λ (l : List ℕ). x ∷ l) rest
    go false false e rest = absurd (true≢false (sym e))

not_not : (t : Bool) → t ≡ not (not t)
not_not true = refl
not_not false = refl

pub picked_is_scratch : (busy : RegSet) (live : ℕ → Bool) (i : Instr) → ((q : ℕ) → has busy.0 q ≡ (live q || (reads_of i q || writes_of i q))) → picked (free_in busy) order ≡ scratch_of live i
picked_is_scratch busy live i same = picked_kept busy (is_scratch live i) (λ q. same q ∙ not_not (live q || (reads_of i q || writes_of i q))) order
