-- The instructions of which sequences are made have codes of two halfwords.
use Rattle.std.proofs.Common.{◌≡◌, ◌≢◌, ℕ, zero, suc, ◌+◌, ◌/◌, ◌%◌, ◌^◌, ◌<◌, ◌≤◌, ◌==◌, ◌||◌, nat_lt, add-one, Bool, true, false, List, [], ◌∷◌, length, filter, cond, refl, sym, ap, ◌∙◌, arith, ne_eqb}
use Rattle.std.proofs.Math.Nat.{div-one, div-div-eq-div-mul, pow-suc}
use Rattle.std.proofs.lemmas.Bool.{eqb-true, eqb-false}
use Rattle.std.proofs.lemmas.Bool.Decides.{nat_tests}
use Rattle.thumb_instr.specs.declared.operations.AccessOp.TheVariants.{Ldr, Str}
use Rattle.thumb_instr.specs.declared.register_sets.RegSet.{RegSet}
use Rattle.thumb_instr.specs.declared.instructions.Instr.{Instr}
use Rattle.thumb_instr.specs.declared.instructions.Instr.TheVariants as instr
use Rattle.thumb_instr.specs.Operands.{has, is_list}
use Rattle.thumb_instr.specs.Formed.{NamesRegisters, TakesFields}
use Rattle.thumb_instr.specs.DataRows.{has_odd_sp, is_copy, is_rrx, names}
use Rattle.thumb_instr.specs.FullRows.{members}
use Rattle.thumb_table.specs.Effects.{registers}
use Rattle.thumb_encode.specs.HasFull.{TellsCodes, has_full}
use Rattle.seq_core.specs.Groups.{moving}
use Rattle.seq_core.specs.Bases.{access_at, summing}
use Rattle.seq_core.specs.Stacks.{transfer_at}
use Rattle.seq_core.specs.Builders.{HasRow}
use Rattle.seq_core.specs.Replaced.{copy_loading}
use Rattle.seq_core.specs.Coded.{MovesCoded, SumsCoded, AccessesCoded, TransfersCoded, CopiesCoded}
use Rattle.seq_core.proofs.Lists.{Each, each_has, each_map}

-- what the test takes has a row
pub coded : TellsCodes → (i : Instr) → NamesRegisters i → TakesFields i → has_full i ≡ true → HasRow i
coded tells i n f h = let c = (tells i n f).0 h in record { first = c.0; second = c.1; stands = c.2.3 }

pub moves_coded : TellsCodes → MovesCoded
unfolding has_full is_copy names is_rrx
moves_coded tells d m ld lm apart = coded tells (moving false d m) (ld, lm) refl (rw apart refl)

pub sums_coded : TellsCodes → SumsCoded
unfolding has_full has_odd_sp names is_rrx
sums_coded tells true d n k ld ln c = let low : (d == 13) ≡ false = ne_eqb d 13 (λ (e : d ≡ 13). omega arith) in let small : d ≤ 14 = omega arith in coded tells (summing true d n k) (small, ln, tt) c (rw low refl)
sums_coded tells false d n k ld ln c = let low : (d == 13) ≡ false = ne_eqb d 13 (λ (e : d ≡ 13). omega arith) in let small : d ≤ 14 = omega arith in coded tells (summing false d n k) (small, ln, tt) c (rw low refl)

pub accesses_coded : TellsCodes → AccessesCoded
unfolding has_full
accesses_coded tells op t n lt ne ln = let apart : (t == 13) ≡ false = ne_eqb t 13 ne in coded tells (access_at op t n) (lt, ln, tt) refl (rw apart refl)

-- THE NUMBER OF REGISTERS

up_from : ℕ → ℕ → List ℕ
up_from i zero = []
up_from i (suc k) = i ∷ up_from (i + 1) k

one_more : (b : Bool) (r i : ℕ) (rs : List ℕ) → r < 2 → (r == 1) ≡ b → length (cond b (i ∷ rs) rs) ≡ r + length rs
one_more true r i rs lt e = let o : r ≡ 1 = eqb-true r 1 e in omega arith
one_more false r i rs lt e = let o : r ≢ 1 = eqb-false r 1 e in omega arith

counted : (k i list : ℕ) → length (filter (λ r. has list r) (up_from i k)) ≡ members k (list / 2 ^ i)
unfolding has up_from
counted zero i list = refl
counted (suc k) i list =
    let b : ℕ = list / 2 ^ i in
    let half : list / 2 ^ (i + 1) ≡ b / 2 = rw (add-one i, pow-suc 2 i) (sym (div-div-eq-div-mul list (2 ^ i) 2)) in
    one_more (b % 2 == 1) (b % 2) i (filter (λ r. has list r) (up_from (i + 1) k)) (omega arith) refl
    ∙ ap (λ n. b % 2 + n) (counted k (i + 1) list ∙ ap (λ h. members k h) half)

pub count_is : (list : ℕ) → length (registers list) ≡ members 15 list
unfolding registers up_from
count_is list = counted 15 0 list ∙ ap (λ n. members 15 n) (div-one list)

pub members_few : (k bits : ℕ) → members k bits ≤ k
members_few zero bits = omega arith
members_few (suc k) bits = let h = members_few k (bits / 2) in omega arith

members_none : (k bits : ℕ) → bits < 2 ^ k → members k bits ≡ 0 → bits ≡ 0
members_none zero bits lt e = omega arith
members_none (suc k) bits lt e =
    let twice = pow-suc 2 k in
    let h = members_none k (bits / 2) (omega arith) (omega arith) in
    omega arith

-- a list that may be transferred without pc
record Parts (list : ℕ) : Type 0 where
  small : list < 2 ^ 15
  no_stack : has list 13 ≡ false
  some : 0 < list

parts : (list : ℕ) → is_list list false ≡ true → Parts list
parts list e = record { small = grind (arith, nat_tests); no_stack = grind (arith, nat_tests); some = grind (arith, nat_tests) }

pick : (P : ℕ → Type 0) (b : Bool) (r : ℕ) (rs : List ℕ) → P r → Each P rs → Each P (cond b (r ∷ rs) rs)
pick P true r rs h hs = (h, hs)
pick P false r rs h hs = hs

each_kept : (P : ℕ → Type 0) (test : ℕ → Bool) (l : List ℕ) → Each P l → Each P (filter test l)
each_kept P test [] h = tt
each_kept P test (r ∷ rs) h = pick P (test r) r (filter test rs) h.0 (each_kept P test rs h.1)

each_low : (list : ℕ) → Each (λ r. r ≤ 14) (registers list)
unfolding registers
each_low list = each_kept (λ r. r ≤ 14) (λ r. has list r) (0 ∷ 1 ∷ 2 ∷ 3 ∷ 4 ∷ 5 ∷ 6 ∷ 7 ∷ 8 ∷ 9 ∷ 10 ∷ 11 ∷ 12 ∷ 13 ∷ 14 ∷ [])
    (omega arith, (omega arith, (omega arith, (omega arith, (omega arith, (omega arith, (omega arith, (omega arith, (omega arith, (omega arith, (omega arith, (omega arith, (omega arith, (omega arith, (omega arith, tt)))))))))))))))

each_plain : (list : ℕ) → has list 13 ≡ false → Each (λ r. r ≢ 13) (registers list)
each_plain list e = each_map _ _ (registers list) (λ r h s. let k = ap (λ q. has list q) s in absurd cc) (each_has list)

or_true : (b : Bool) → (b || true) ≡ true
or_true true = refl
or_true false = refl

-- what is known of the registers of a list
record Known (list : ℕ) (rs : List ℕ) : Type 0 where
  low : Each (λ r. r ≤ 14) rs
  plain : Each (λ r. r ≢ 13) rs
  count : length rs ≡ members 15 list
  small : list < 2 ^ 15
  some : 0 < list

known : (list : ℕ) → is_list list false ≡ true → Known list (registers list)
known list e = let p = parts list e in record { low = each_low list; plain = each_plain list p.no_stack; count = count_is list; small = p.small; some = p.some }

not_none : (list : ℕ) → Known list [] → ⊥
not_none list k = let c : members 15 list ≡ 0 = sym k.count in let z = members_none 15 list k.small c in let s = k.some in omega arith

many_coded : TellsCodes → (load down : Bool) (n : ℕ) (list : RegSet) (t u : ℕ) (rs : List ℕ) → n ≤ 14 → is_list list.0 false ≡ true → Known list.0 (t ∷ u ∷ rs) →
    HasRow (instr.Multi (record { load = load; down = down; back = false; n = n; list = list; pc = false }))
unfolding has_full
many_coded tells load down n list t u rs ln is k =
    let c = k.count in
    let two : nat_lt (members 15 list.0 + 0) 2 ≡ false = grind (arith, nat_tests) in
    coded tells (instr.Multi (record { load = load; down = down; back = false; n = n; list = list; pc = false })) ln is (rw two (or_true (list.0 == 0)))

pub transfers_coded : TellsCodes → TransfersCoded
transfers_coded tells load n list ln is = go load (registers list.0) (known list.0 is)
  where
    go : (load : Bool) (rs : List ℕ) → Known list.0 rs → HasRow (transfer_at load n list rs)
    go load [] k = absurd (not_none list.0 k)
    go true (t ∷ []) k = accesses_coded tells Ldr t n k.low.0 k.plain.0 ln
    go false (t ∷ []) k = accesses_coded tells Str t n k.low.0 k.plain.0 ln
    go true (t ∷ u ∷ rs) k = many_coded tells true false n list t u rs ln is k
    go false (t ∷ u ∷ rs) k = many_coded tells false false n list t u rs ln is k

pub copies_coded : TellsCodes → CopiesCoded
copies_coded tells down n list ln is = go (registers list.0) (known list.0 is)
  where
    go : (rs : List ℕ) → Known list.0 rs → HasRow (copy_loading down n list rs)
    go [] k = absurd (not_none list.0 k)
    go (t ∷ []) k = accesses_coded tells Ldr t n k.low.0 k.plain.0 ln
    go (t ∷ u ∷ rs) k = many_coded tells true down n list t u rs ln is k
