-- Loads and stores of lists of registers that the test takes have a code of two halfwords.
use Rattle.std.proofs.Common.{◌≡◌, ℕ, ◌+◌, ◌*◌, ◌/◌, ◌%◌, ◌^◌, ◌<◌, ◌≤◌, Bool, true, false, refl, subst, arith, Ok, ◌==◌, ◌&&◌, ◌||◌, not, nat_lt}
use Rattle.std.proofs.lemmas.Bool.{and_parts, eqb-true, ltb-true, eqb-false}
use Rattle.thumb_instr.specs.declared.instructions.Instr.TheVariants as instr
use Rattle.thumb_instr.specs.declared.refusals.ItPlace.TheVariants.{Outside}
use Rattle.thumb_instr.specs.Fields.{MultiFields}
use Rattle.thumb_instr.specs.Operands.{has, is_list}
use Rattle.thumb_instr.specs.Meanings.{is_inside}
use Rattle.mark_word.specs.Formulas.{one_if}
use Rattle.thumb_instr.specs.FullRows.{full_rows, many, members}
use Rattle.thumb_encode.specs.HasFull.{has_full, is_pop}
use Rattle.thumb_encode.proofs.Covering.{chosen}
use Rattle.thumb_encode.proofs.Putting.{IsGiven, IsCoded, coded}
use Rattle.thumb_encode.proofs.Coded.{four_bits, no_pc, one_bit, bit_again, neither, not_true, taken, passed}

list_is_small : (list : ℕ) (pc : Bool) → is_list list pc ≡ true → list < 2 ^ 15
list_is_small list pc e =
    let both = and_parts (nat_lt list (2 ^ 15) && not (has list 13)) (nat_lt 0 list || pc) e in
    ltb-true list (2 ^ 15) (and_parts (nat_lt list (2 ^ 15)) (not (has list 13)) both.0).0

-- sp is in no list
list_lacks_sp : (list : ℕ) (pc : Bool) → is_list list pc ≡ true → list / 2 ^ 13 % 2 ≡ 0
unfolding has
list_lacks_sp list pc e =
    let both = and_parts (nat_lt list (2 ^ 15) && not (has list 13)) (nat_lt 0 list || pc) e in
    let parts = and_parts (nat_lt list (2 ^ 15)) (not (has list 13)) both.0 in
    let apart = eqb-false (list / 2 ^ 13 % 2) 1 (not_true ((list / 2 ^ 13 % 2) == 1) parts.1) in
    grind arith

list_again : (list : ℕ) (pc : Bool) → is_list list pc ≡ true → 2 ^ 14 * (list / 2 ^ 14) + list % 2 ^ 13 ≡ list
list_again list pc e = let less = list_is_small list pc e in let gap = list_lacks_sp list pc e in omega arith

-- the refusals of a list
abbrev pub is_refused : Bool → ℕ → ℕ → Bool → Bool
is_refused back n list pc = nat_lt (members 15 list + one_if pc) 2 || (pc && has list 14) || (back && has list n)

outside : (pc a b c : Bool) → (a || b || c) ≡ false → ((pc && is_inside Outside) || a || b || c) ≡ false
outside true a b c e = e
outside false a b c e = e

many_takes : (load down back : Bool) (n list : ℕ) (pc : Bool) → n ≤ 14 → is_list list pc ≡ true → (pc && not (load && not down && back && (n == 13))) ≡ false → is_refused back n list pc ≡ false
    → many Outside load down back n list pc ≡ Ok (instr.Multi (record { load = load; down = down; back = back; n = n; list = record { 0 = list }; pc = pc }))
unfolding many
many_takes load down back n list pc ln is pops fine =
    passed _ _ _ _ (neither (n == 15) (pc && not (load && not down && back && (n == 13))) (no_pc n ln) pops)
    (passed _ _ _ _ (outside pc (nat_lt (members 15 list + one_if pc) 2) (pc && has list 14) (back && has list n) fine) (taken (is_list list pc) _ is))

many_of : (load down back : Bool) (n list : ℕ) (pc : Bool) → n ≤ 14 → is_list list pc ≡ true → (pc && not (load && not down && back && (n == 13))) ≡ false → is_refused back n list pc ≡ false
    → IsCoded (instr.Multi (record { load = load; down = down; back = back; n = n; list = record { 0 = list }; pc = pc }))
unfolding full_rows
many_of load false back n list pc ln is pops fine =
    let less = list_is_small list pc is in
    coded 0 (one_if back, (one_if load, (n, (one_if pc, (list / 2 ^ 14, (list % 2 ^ 13, tt)))))) _ refl refl (one_bit back, (one_bit load, (four_bits n ln, (one_bit pc, (omega arith, (omega arith, tt))))))
    (rw (bit_again load, bit_again back, bit_again pc, list_again list pc is) (many_takes load false back n list pc ln is pops fine))
many_of load true back n list pc ln is pops fine =
    let less = list_is_small list pc is in
    coded 1 (one_if back, (one_if load, (n, (one_if pc, (list / 2 ^ 14, (list % 2 ^ 13, tt)))))) _ refl refl (one_bit back, (one_bit load, (four_bits n ln, (one_bit pc, (omega arith, (omega arith, tt))))))
    (rw (bit_again load, bit_again back, bit_again pc, list_again list pc is) (many_takes load true back n list pc ln is pops fine))

-- POP of pc alone
pop_of : IsCoded (instr.Multi (record { load = true; down = false; back = true; n = 13; list = record { 0 = 0 }; pc = true }))
unfolding full_rows has
pop_of = coded 24 tt _ refl refl tt refl

alone : (load down back : Bool) (n list : ℕ) (pc : Bool) → pc ≡ true → load ≡ true → down ≡ false → back ≡ true → n ≡ 13 → list ≡ 0
    → IsCoded (instr.Multi (record { load = load; down = down; back = back; n = n; list = record { 0 = list }; pc = pc }))
alone load down back n list pc a b c d e f =
    rw (a, b, c, d, e, f) pop_of

pc_of : (list : ℕ) (pc : Bool) → is_list list pc ≡ true → list ≡ 0 → pc ≡ true
unfolding has
pc_of list true e f = refl
pc_of list false e f = let P : ℕ → Type 0 = λ k. is_list k false ≡ true in let wrong : is_list 0 false ≡ true = subst P f e in absurd (cc)

pops : (pc pop : Bool) → pc ≡ true → (pc && not pop) ≡ false → pop ≡ true
pops true true e f = refl
pops true false e f = absurd (cc)
pops false pop e f = absurd (cc)

or_second : (a b : Bool) → (a || b) ≡ true → a ≡ false → b ≡ true
or_second true b e f = (cc)
or_second false b e f = e

pub multi_coded : (i : MultiFields) → IsGiven (instr.Multi i) → has_full (instr.Multi i) ≡ true → IsCoded (instr.Multi i)
unfolding has_full
multi_coded i f e =
    let both = and_parts (not (i.pc && not (is_pop i))) ((i.list.0 == 0) || not (is_refused i.back i.n i.list.0 i.pc)) e in
    let popped = not_true (i.pc && not (is_pop i)) both.0 in
    chosen (λ b. (i.list.0 == 0) ≡ b → IsCoded (instr.Multi i)) (i.list.0 == 0)
    (λ none _.
    let zeros = eqb-true i.list.0 0 none in
    let pc = pc_of i.list.0 i.pc f.fields zeros in
    let pop = pops i.pc (is_pop i) pc popped in
    let p = and_parts (i.load && not i.down && i.back) (i.n == 13) pop in
    let q = and_parts (i.load && not i.down) i.back p.0 in
    let r = and_parts i.load (not i.down) q.0 in
    alone i.load i.down i.back i.n i.list.0 i.pc pc r.0 (not_true i.down r.1) q.1 (eqb-true i.n 13 p.1) zeros)
    (λ some _. many_of i.load i.down i.back i.n i.list.0 i.pc f.registers f.fields popped (not_true (is_refused i.back i.n i.list.0 i.pc) (or_second (i.list.0 == 0) _ both.1 some)))
    refl
