-- What is meant by an instruction: it depends on what is read, and changes what may be written.
use Rattle.std.proofs.Common.{◌≡◌, ℕ, ◌+◌, ◌-◌, ◌*◌, ◌%◌, Bool, true, false, List, [], ◌∷◌, ◌++◌, length, Ok, Err, refl, ap, ◌∙◌}
use Rattle.std.specs.Prelude.{◌==◌, not, if◌then◌else◌}
use Rattle.std.specs.List.{list_any}
use Rattle.mark_word.specs.Words.{Word}
use Rattle.thumb_instr.specs.declared.operations.AccessOp.{AccessOp}
use Rattle.thumb_instr.specs.declared.operations.AccessOp.TheVariants.{Ldr, Ldrb, Ldrh, Ldrsb, Ldrsh, Str, Strb, Strh}
use Rattle.thumb_instr.specs.declared.places.Place.{Place}
use Rattle.thumb_instr.specs.declared.places.Place.TheVariants.{Offset, Pre, Post, Index}
use Rattle.thumb_instr.specs.declared.places.PairIndex.{PairIndex}
use Rattle.thumb_instr.specs.declared.places.PairIndex.TheVariants as index
use Rattle.thumb_instr.specs.Fields.{AccessFields, PairFields, MultiFields}
use Rattle.thumb_instr.specs.declared.instructions.Instr.{Instr}
use Rattle.thumb_instr.specs.declared.instructions.Instr.TheVariants.{Alu, Move, Test, ShiftBy, Wide, Half, Field, Unary, Mul, MulAcc, LongMul, Div, Access, Pair, Multi, Literal, Adr, Branch, ZeroBranch, Call, Jump, CallReg, It, Nothing, Trap}
use Rattle.thumb_instr.specs.Sets.{writes_of, is_store}
use Rattle.thumb_table.specs.declared.faults.FaultKind.TheVariants.{BadAddress, Unaligned}
use Rattle.thumb_table.specs.declared.faults.FaultKind.TheVariants as fault
use Rattle.mark_word.specs.Marks.{pieces}
use Rattle.thumb_table.specs.Parts.{Memory}
use Rattle.thumb_table.specs.States.{Core, read, Change, Outcome, Jumps, Site, is_askew, unchanged, upright}
use Rattle.thumb_table.specs.Values.{Computed}
use Rattle.thumb_table.specs.Effects.{change, value, with_flags, with_sign, writing, accessed, after_base, base_write, transferred, base_moved, on_words, and_next, jump_if, jump_to, lies_in, registers, lowest, transfer_size, access_address, size_of, pair_place, word_at, two_words, link, from, stored}
use Rattle.seq_core.specs.Meanings.{Ends, meant, nowhere}
use Rattle.seq_core.specs.Reading.{SameReads, IsWithin, stores}
use Rattle.seq_core.specs.Apart.{goes_on_always}
use Rattle.seq_core.proofs.Tests.{same_number, ap₃}
use Rattle.seq_core.proofs.Seen.{depends}
use Rattle.seq_core.proofs.Written.{writes, one_within}
use Rattle.seq_core.proofs.Quiet.{Quiet, one_quiet, change_quiet}

pub meant_depends : (i : Instr) (e : Ends) (x y : Core) → goes_on_always i ≡ true → SameReads i x y → meant i e x ≡ meant i e y
unfolding meant
meant_depends (Alu i) e x y g h = depends (Alu i) nowhere x y h
meant_depends (Move i) e x y g h = depends (Move i) nowhere x y h
meant_depends (Test i) e x y g h = depends (Test i) nowhere x y h
meant_depends (ShiftBy i) e x y g h = depends (ShiftBy i) nowhere x y h
meant_depends (Wide i) e x y g h = depends (Wide i) nowhere x y h
meant_depends (Half i) e x y g h = depends (Half i) nowhere x y h
meant_depends (Field i) e x y g h = depends (Field i) nowhere x y h
meant_depends (Unary i) e x y g h = depends (Unary i) nowhere x y h
meant_depends (Mul i) e x y g h = depends (Mul i) nowhere x y h
meant_depends (MulAcc i) e x y g h = depends (MulAcc i) nowhere x y h
meant_depends (LongMul i) e x y g h = depends (LongMul i) nowhere x y h
meant_depends (Div i) e x y g h = depends (Div i) nowhere x y h
meant_depends (Access i) e x y g h = depends (Access i) nowhere x y h
meant_depends (Pair i) e x y g h = depends (Pair i) nowhere x y h
meant_depends (Multi i) e x y g h = depends (Multi i) nowhere x y h
meant_depends (Literal i) e x y g h = refl
meant_depends (Adr i) e x y g h = depends (Adr i) nowhere x y h
meant_depends (Nothing i) e x y g h = depends (Nothing i) nowhere x y h
meant_depends (Branch i) e x y g h = absurd cc
meant_depends (ZeroBranch i) e x y g h = absurd cc
meant_depends (Call i) e x y g h = absurd cc
meant_depends (Jump i) e x y g h = absurd cc
meant_depends (CallReg i) e x y g h = absurd cc
meant_depends (It i) e x y g h = absurd cc
meant_depends (Trap i) e x y g h = absurd cc

pub meant_within : (i : Instr) (e : Ends) (x : Core) (h : Change) → goes_on_always i ≡ true → meant i e x ≡ Ok h → IsWithin i h
unfolding meant writes_of
meant_within (Alu i) e x h g m = writes (Alu i) nowhere x h m
meant_within (Move i) e x h g m = writes (Move i) nowhere x h m
meant_within (Test i) e x h g m = writes (Test i) nowhere x h m
meant_within (ShiftBy i) e x h g m = writes (ShiftBy i) nowhere x h m
meant_within (Wide i) e x h g m = writes (Wide i) nowhere x h m
meant_within (Half i) e x h g m = writes (Half i) nowhere x h m
meant_within (Field i) e x h g m = writes (Field i) nowhere x h m
meant_within (Unary i) e x h g m = writes (Unary i) nowhere x h m
meant_within (Mul i) e x h g m = writes (Mul i) nowhere x h m
meant_within (MulAcc i) e x h g m = writes (MulAcc i) nowhere x h m
meant_within (LongMul i) e x h g m = writes (LongMul i) nowhere x h m
meant_within (Div i) e x h g m = writes (Div i) nowhere x h m
meant_within (Access i) e x h g m = writes (Access i) nowhere x h m
meant_within (Pair i) e x h g m = writes (Pair i) nowhere x h m
meant_within (Multi i) e x h g m = writes (Multi i) nowhere x h m
meant_within (Literal i) e x h g m = one_within (Literal i) i.t e.word h (same_number i.t) m
meant_within (Adr i) e x h g m = writes (Adr i) nowhere x h m
meant_within (Nothing i) e x h g m = writes (Nothing i) nowhere x h m
meant_within (Branch i) e x h g m = absurd cc
meant_within (ZeroBranch i) e x h g m = absurd cc
meant_within (Call i) e x h g m = absurd cc
meant_within (Jump i) e x h g m = absurd cc
meant_within (CallReg i) e x h g m = absurd cc
meant_within (It i) e x h g m = absurd cc
meant_within (Trap i) e x h g m = absurd cc

pub meant_quiet : (i : Instr) (e : Ends) (x : Core) (h : Change) → goes_on_always i ≡ true → meant i e x ≡ Ok h → Quiet (stores i) h
unfolding meant
meant_quiet (Alu i) e x h g m = change_quiet (Alu i) nowhere x h g m
meant_quiet (Move i) e x h g m = change_quiet (Move i) nowhere x h g m
meant_quiet (Test i) e x h g m = change_quiet (Test i) nowhere x h g m
meant_quiet (ShiftBy i) e x h g m = change_quiet (ShiftBy i) nowhere x h g m
meant_quiet (Wide i) e x h g m = change_quiet (Wide i) nowhere x h g m
meant_quiet (Half i) e x h g m = change_quiet (Half i) nowhere x h g m
meant_quiet (Field i) e x h g m = change_quiet (Field i) nowhere x h g m
meant_quiet (Unary i) e x h g m = change_quiet (Unary i) nowhere x h g m
meant_quiet (Mul i) e x h g m = change_quiet (Mul i) nowhere x h g m
meant_quiet (MulAcc i) e x h g m = change_quiet (MulAcc i) nowhere x h g m
meant_quiet (LongMul i) e x h g m = change_quiet (LongMul i) nowhere x h g m
meant_quiet (Div i) e x h g m = change_quiet (Div i) nowhere x h g m
meant_quiet (Access i) e x h g m = change_quiet (Access i) nowhere x h g m
meant_quiet (Pair i) e x h g m = change_quiet (Pair i) nowhere x h g m
meant_quiet (Multi i) e x h g m = change_quiet (Multi i) nowhere x h g m
meant_quiet (Literal i) e x h g m = one_quiet i.t e.word h m
meant_quiet (Adr i) e x h g m = change_quiet (Adr i) nowhere x h g m
meant_quiet (Nothing i) e x h g m = change_quiet (Nothing i) nowhere x h g m
meant_quiet (Branch i) e x h g m = absurd cc
meant_quiet (ZeroBranch i) e x h g m = absurd cc
meant_quiet (Call i) e x h g m = absurd cc
meant_quiet (Jump i) e x h g m = absurd cc
meant_quiet (CallReg i) e x h g m = absurd cc
meant_quiet (It i) e x h g m = absurd cc
meant_quiet (Trap i) e x h g m = absurd cc

-- A store sees of memory only where it lies.
abbrev with_memory : Core → Memory → Core
with_memory x m = record x { memory = m }

lies_same : (m k : Memory) (a n : ℕ) → m.base ≡ k.base → length m.cells ≡ length k.cells → lies_in m a n ≡ lies_in k a n
lies_same m k a n b l = cc

accessed_unseen : (op : AccessOp) (t a : ℕ) (x : Core) (m : Memory) → is_store op ≡ true → accessed op t a (with_memory x m) ≡ accessed op t a x
accessed_unseen Ldr t a x m e = absurd cc
accessed_unseen Ldrb t a x m e = absurd cc
accessed_unseen Ldrh t a x m e = absurd cc
accessed_unseen Ldrsb t a x m e = absurd cc
accessed_unseen Ldrsh t a x m e = absurd cc
accessed_unseen Str t a x m e = refl
accessed_unseen Strb t a x m e = refl
accessed_unseen Strh t a x m e = refl

access_unseen : (i : AccessFields) (s : Site) (x : Core) (m : Memory) → is_store i.op ≡ true → m.base ≡ x.memory.base → length m.cells ≡ length x.memory.cells → change (Access i) s (with_memory x m) ≡ change (Access i) s x
unfolding change
access_unseen i s x m e b l =
    let a : ℕ = access_address i.n i.place x in
    let p : access_address i.n i.place (with_memory x m) ≡ a = place_unseen i.n i.place x m in
    let q : base_write i.n i.place (with_memory x m) ≡ base_write i.n i.place x = base_unseen i.n i.place x m in
    ap₃ (λ t a ws. if t then upright (after_base ws (accessed i.op i.t a (with_memory x m))) else Err BadAddress) (ap (λ a. lies_in m a (size_of i.op)) p ∙ lies_same m x.memory a (size_of i.op) b l) p q
    ∙ ap (λ g. if lies_in x.memory a (size_of i.op) then upright (after_base (base_write i.n i.place x) g) else Err BadAddress) (accessed_unseen i.op i.t a x m e)
  where
    place_unseen : (n : ℕ) (l : Place) (x : Core) (m : Memory) → access_address n l (with_memory x m) ≡ access_address n l x
    place_unseen n (Offset up imm) x m = refl
    place_unseen n (Pre up imm) x m = refl
    place_unseen n (Post up imm) x m = refl
    place_unseen n (Index r shift) x m = refl

    base_unseen : (n : ℕ) (l : Place) (x : Core) (m : Memory) → base_write n l (with_memory x m) ≡ base_write n l x
    base_unseen n (Offset up imm) x m = refl
    base_unseen n (Pre up imm) x m = refl
    base_unseen n (Post up imm) x m = refl
    base_unseen n (Index r shift) x m = refl

words_same : (m k : Memory) (a n : ℕ) (o : Outcome) → m.base ≡ k.base → length m.cells ≡ length k.cells → on_words m a n o ≡ on_words k a n o
words_same m k a n o b l = ap (λ t. if not t then Err BadAddress else if not (a % 4 == 0) then Err Unaligned else o) (lies_same m k a n b l)

stored_unseen : (x : Core) (m : Memory) (a : ℕ) (rs : List ℕ) → stored (with_memory x m) a rs ≡ stored x a rs
stored_unseen x m a [] = refl
stored_unseen x m a (r ∷ rs) = ap (λ l. from a (pieces (read x r)) ++ l) (stored_unseen x m (a + 4) rs)

transferred_unseen : (load : Bool) (x : Core) (m : Memory) (a : ℕ) (rs : List ℕ) → not load ≡ true → transferred load a rs (with_memory x m) ≡ transferred load a rs x
transferred_unseen true x m a rs e = absurd cc
transferred_unseen false x m a rs e = ap (λ l. record unchanged { cells = l }) (stored_unseen x m a rs)

pair_unseen : (i : PairFields) (s : Site) (x : Core) (m : Memory) → not i.load ≡ true → m.base ≡ x.memory.base → length m.cells ≡ length x.memory.cells → change (Pair i) s (with_memory x m) ≡ change (Pair i) s x
unfolding change
pair_unseen i s x m e b l = go i.index
  where
    go : (index : PairIndex) → change (Pair (record i { index = index })) s (with_memory x m) ≡ change (Pair (record i { index = index })) s x
    go index.Offset =
        let a : ℕ = access_address i.n (Offset i.up i.imm) x in
        words_same m x.memory a 8 (upright (after_base [] (transferred i.load a (i.t ∷ i.u ∷ []) (with_memory x m)))) b l
        ∙ ap (λ g. on_words x.memory a 8 (upright (after_base [] g))) (transferred_unseen i.load x m a (i.t ∷ i.u ∷ []) e)
    go index.Pre =
        let a : ℕ = access_address i.n (Pre i.up i.imm) x in
        words_same m x.memory a 8 (upright (after_base (base_write i.n (Pre i.up i.imm) x) (transferred i.load a (i.t ∷ i.u ∷ []) (with_memory x m)))) b l
        ∙ ap (λ g. on_words x.memory a 8 (upright (after_base (base_write i.n (Pre i.up i.imm) x) g))) (transferred_unseen i.load x m a (i.t ∷ i.u ∷ []) e)
    go index.Post =
        let a : ℕ = access_address i.n (Post i.up i.imm) x in
        words_same m x.memory a 8 (upright (after_base (base_write i.n (Post i.up i.imm) x) (transferred i.load a (i.t ∷ i.u ∷ []) (with_memory x m)))) b l
        ∙ ap (λ g. on_words x.memory a 8 (upright (after_base (base_write i.n (Post i.up i.imm) x) g))) (transferred_unseen i.load x m a (i.t ∷ i.u ∷ []) e)

multi_unseen : (i : MultiFields) (s : Site) (x : Core) (m : Memory) → not i.load ≡ true → not i.pc ≡ true → m.base ≡ x.memory.base → length m.cells ≡ length x.memory.cells → change (Multi i) s (with_memory x m) ≡ change (Multi i) s x
unfolding change
multi_unseen i s x m e p b l =
    let bytes : ℕ = transfer_size i.list.0 i.pc in
    let a : ℕ = lowest i.down (value x i.n) bytes in
    let ws : List (ℕ × Word) = base_moved i.back i.down i.n (value x i.n) bytes in
    words_same m x.memory a bytes (and_next (upright (after_base ws (transferred i.load a (registers i.list.0) (with_memory x m)))) (λ h. jump_if i.pc (word_at m (a + 4 * length (registers i.list.0))).word.bits h)) b l
    ∙ ap (λ g. on_words x.memory a bytes (and_next (upright (after_base ws g)) (λ h. jump_if i.pc (word_at m (a + 4 * length (registers i.list.0))).word.bits h))) (transferred_unseen i.load x m a (registers i.list.0) e)
    ∙ ap (λ f. on_words x.memory a bytes (and_next (upright (after_base ws (transferred i.load a (registers i.list.0) x))) f)) (unjumped i.pc p _ _)
  where
    unjumped : (pc : Bool) → not pc ≡ true → (u v : ℕ) → let f : Change → Outcome = λ h. jump_if pc u h in f ≡ (λ h. jump_if pc v h)
    unjumped true p u v = absurd cc
    unjumped false p u v = refl

-- what a store means depends on memory only by where it lies
pub store_unseen : (i : Instr) (e : Ends) (x : Core) (m : Memory) → goes_on_always i ≡ true → stores i ≡ true → m.base ≡ x.memory.base → length m.cells ≡ length x.memory.cells → meant i e (with_memory x m) ≡ meant i e x
unfolding meant
store_unseen (Access i) e x m g s b l = access_unseen i nowhere x m s b l
store_unseen (Pair i) e x m g s b l = pair_unseen i nowhere x m s b l
store_unseen (Multi i) e x m g s b l = multi_unseen i nowhere x m s g b l
store_unseen (Alu i) e x m g s b l = absurd cc
store_unseen (Move i) e x m g s b l = absurd cc
store_unseen (Test i) e x m g s b l = absurd cc
store_unseen (ShiftBy i) e x m g s b l = absurd cc
store_unseen (Wide i) e x m g s b l = absurd cc
store_unseen (Half i) e x m g s b l = absurd cc
store_unseen (Field i) e x m g s b l = absurd cc
store_unseen (Unary i) e x m g s b l = absurd cc
store_unseen (Mul i) e x m g s b l = absurd cc
store_unseen (MulAcc i) e x m g s b l = absurd cc
store_unseen (LongMul i) e x m g s b l = absurd cc
store_unseen (Div i) e x m g s b l = absurd cc
store_unseen (Literal i) e x m g s b l = absurd cc
store_unseen (Adr i) e x m g s b l = absurd cc
store_unseen (Branch i) e x m g s b l = absurd cc
store_unseen (ZeroBranch i) e x m g s b l = absurd cc
store_unseen (Call i) e x m g s b l = absurd cc
store_unseen (Jump i) e x m g s b l = absurd cc
store_unseen (CallReg i) e x m g s b l = absurd cc
store_unseen (It i) e x m g s b l = absurd cc
store_unseen (Nothing i) e x m g s b l = absurd cc
store_unseen (Trap i) e x m g s b l = absurd cc

-- faults that aren't traps
upright_never : (g : Change) → upright g ≡ Err fault.Trap → ⊥
upright_never g = elim (list_any is_askew g.regs) as (λ b. (let o : Outcome = if b then Err fault.BadStack else Ok g in o) ≡ Err fault.Trap → ⊥) [ true ↦ λ e. absurd cc | false ↦ λ e. absurd cc ]

pub ok_never : (g : Change) → (let o : Outcome = Ok g in o) ≡ Err fault.Trap → ⊥
ok_never g e = absurd cc

access_never : (b : Bool) (o : Outcome) → (o ≡ Err fault.Trap → ⊥) → (if b then o else Err BadAddress) ≡ Err fault.Trap → ⊥
access_never true o n e = n e
access_never false o n e = absurd cc

words_never : (a b : Bool) (o : Outcome) → (o ≡ Err fault.Trap → ⊥) → (if not a then Err BadAddress else if not b then Err Unaligned else o) ≡ Err fault.Trap → ⊥
words_never true true o n e = n e
words_never true false o n e = absurd cc
words_never false b o n e = absurd cc

next_never : (o : Outcome) (pc : Bool) (bits : ℕ) → (o ≡ Err fault.Trap → ⊥) → and_next o (λ g. jump_if pc bits g) ≡ Err fault.Trap → ⊥
next_never (Err k) pc bits n e = n e
next_never (Ok g) false bits n e = absurd cc
next_never (Ok g) true bits n e = go (bits % 2 == 1) e
  where
    go : (b : Bool) → (if b then Ok (record g { exit = Jumps (bits - 1) }) else Err fault.BadJump) ≡ Err fault.Trap → ⊥
    go true e = absurd cc
    go false e = absurd cc

pub jump_never : (bits : ℕ) (g : Change) → jump_to bits g ≡ Err fault.Trap → ⊥
jump_never bits g = next_never (Ok g) true bits (ok_never g)

abbrev pub is_trap : Instr → Bool
is_trap (Trap i) = true
is_trap i = false

flags_never : (s : Bool) (r : Computed) (regs : List (ℕ × Word)) → upright (with_flags s r (writing regs)) ≡ Err fault.Trap → ⊥
flags_never s r regs e = upright_never (with_flags s r (writing regs)) e

sign_never : (s : Bool) (n : ℕ) (regs : List (ℕ × Word)) → upright (with_sign s n (writing regs)) ≡ Err fault.Trap → ⊥
sign_never s n regs e = upright_never (with_sign s n (writing regs)) e

one_never : (d : ℕ) (w : Word) → upright (writing ((d, w) ∷ [])) ≡ Err fault.Trap → ⊥
one_never d w e = upright_never (writing ((d, w) ∷ [])) e

pub change_never_traps : (i : Instr) (s : Site) (x : Core) → is_trap i ≡ false → change i s x ≡ Err fault.Trap → ⊥
unfolding change
change_never_traps (Alu i) s x g e = flags_never i.s _ _ e
change_never_traps (Move i) s x g e = flags_never i.s _ _ e
change_never_traps (ShiftBy i) s x g e = flags_never i.s _ _ e
change_never_traps (Wide i) s x g e = one_never i.d _ e
change_never_traps (Half i) s x g e = one_never i.d _ e
change_never_traps (Field i) s x g e = one_never i.d _ e
change_never_traps (Unary i) s x g e = one_never i.d _ e
change_never_traps (Mul i) s x g e = sign_never i.s _ _ e
change_never_traps (MulAcc i) s x g e = one_never i.d _ e
change_never_traps (LongMul i) s x g e = upright_never (two_words i.lo i.hi _) e
change_never_traps (Div i) s x g e = one_never i.d _ e
change_never_traps (Adr i) s x g e = one_never i.d _ e
change_never_traps (Access i) s x g e = access_never _ _ (upright_never (after_base (base_write i.n i.place x) (accessed i.op i.t (access_address i.n i.place x) x))) e
change_never_traps (Literal i) s x g e = access_never _ _ (one_never i.t _) e
change_never_traps (Pair i) s x g e =
    let p = pair_place i.index i.up i.imm in
    words_never _ _ _ (upright_never (after_base (base_write i.n p x) (transferred i.load (access_address i.n p x) (i.t ∷ i.u ∷ []) x))) e
change_never_traps (Multi i) s x g e =
    let bytes = transfer_size i.list.0 i.pc in
    words_never _ _ _ (next_never _ i.pc _ (upright_never (after_base (base_moved i.back i.down i.n (value x i.n) bytes) (transferred i.load (lowest i.down (value x i.n) bytes) (registers i.list.0) x)))) e
change_never_traps (Test i) s x g e = ok_never _ e
change_never_traps (Branch i) s x g e = ok_never _ e
change_never_traps (ZeroBranch i) s x g e = ok_never _ e
change_never_traps (Call i) s x g e = ok_never _ e
change_never_traps (It i) s x g e = ok_never _ e
change_never_traps (Nothing i) s x g e = ok_never _ e
change_never_traps (Jump i) s x g e = jump_never _ unchanged e
change_never_traps (CallReg i) s x g e = jump_never _ (link s) e
change_never_traps (Trap i) s x g e = absurd cc
