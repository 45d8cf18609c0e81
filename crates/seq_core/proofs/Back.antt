-- Accesses and pairs that move their base.
use Rattle.std.proofs.Common.{◌≡◌, ◌+◌, ◌≢◌, ℕ, ◌^◌, ◌<◌, Bool, true, false, List, [], ◌∷◌, length, Ok, Err, refl, sym, ap, ◌∙◌, subst, arith, ne_eqb, get_or-set_other}
use Rattle.std.specs.Prelude.{◌==◌, ◌||◌, ◌&&◌, not, if◌then◌else◌}
use Rattle.std.specs.List.{list_any}
use Rattle.std.proofs.lemmas.Bool.{eqb-true}
use Rattle.mark_word.specs.Words.{Word, plain}
use Rattle.thumb_instr.specs.declared.operations.AccessOp.{AccessOp}
use Rattle.thumb_instr.specs.declared.places.Place.TheVariants.{Pre, Post}
use Rattle.thumb_instr.specs.declared.instructions.Instr.TheVariants as instr
use Rattle.thumb_instr.specs.Sets.{reads_of, writes_of, sets_flags_of, is_store}
use Rattle.thumb_table.specs.declared.faults.FaultKind.TheVariants as fault
use Rattle.thumb_table.specs.States.{Core, Change, applied, read, is_askew, upright}
use Rattle.thumb_table.specs.Values.{wrapped, moved}
use Rattle.thumb_table.specs.Effects.{change, value, writing, accessed, lies_in, size_of}
use Rattle.seq_core.specs.Meanings.{meant, nowhere}
use Rattle.seq_core.specs.Apart.{IsApart}
use Rattle.seq_core.specs.Groups.{done, moving}
use Rattle.seq_core.specs.Bases.{summing, access_at, PreAccessCarries, PostAccessCarries}
use Rattle.seq_core.proofs.Tests.{here}
use Rattle.seq_core.proofs.Written.{upright_is}
use Rattle.seq_core.proofs.Sent.{even_of}
use Rattle.seq_core.proofs.Seen.{accessed_same}
use Rattle.seq_core.proofs.Meaning.{change_never_traps}
use Rattle.seq_core.proofs.Quiet.{accessed_quiet}
use Rattle.seq_core.proofs.Near.{read_set}
use Rattle.seq_core.proofs.Base.{even_done, base_first, base_behind, Done, with_base}

-- what is known of an access that came through
pub record Came (b : Bool) (g h : Change) : Type 0 where
  pub lies : b ≡ true
  pub even : list_any is_askew g.regs ≡ false
  pub made : g ≡ h

pub came : (b : Bool) (g h : Change) → (if b then upright g else Err fault.BadAddress) ≡ Ok h → Came b g h
came true g h e = record { lies = refl; even = even_of g h e; made = upright_is g h e }
came false g h e = absurd cc

pub or_first : (a b : Bool) → (a || b) ≡ false → a ≡ false
or_first true b e = absurd cc
or_first false b e = refl

pub or_second : (a b : Bool) → (a || b) ≡ false → b ≡ false
or_second true b e = absurd cc
or_second false b e = e

pub alone : (w : ℕ × Word) (ws : List (ℕ × Word)) → list_any is_askew (w ∷ ws) ≡ false → list_any is_askew (w ∷ []) ≡ false
alone w ws e = let f = or_first (is_askew w) (list_any is_askew ws) e in rw f refl

pub others_even : (w : ℕ × Word) (ws : List (ℕ × Word)) → list_any is_askew (w ∷ ws) ≡ false → list_any is_askew ws ≡ false
others_even w ws e = or_second (is_askew w) (list_any is_askew ws) e

pub moved_small : (up : Bool) (a imm : ℕ) → moved up a imm < 2 ^ 32
moved_small true a imm = omega arith
moved_small false a imm = omega arith

pub stays_small : (a : ℕ) → a < 2 ^ 32 → wrapped a ≡ a
stays_small a lt = omega arith

pub nothing_added : (a : ℕ) → moved true a 0 ≡ wrapped a
nothing_added a = let e : a + 0 ≡ a = omega arith in ap wrapped e

-- an access at [n, #0]
pub access_step : (op : AccessOp) (t n a : ℕ) (x y : Core) → wrapped (value x n) ≡ a → x.memory ≡ y.memory → (is_store op ≡ true → read x t ≡ read y t) → lies_in y.memory a (size_of op) ≡ true → list_any is_askew (accessed op t a y).regs ≡ false → done (access_at op t n) x ≡ Ok (accessed op t a y)
unfolding meant change
access_step op t n a x y v m r l e =
    ap (λ a. if lies_in x.memory a (size_of op) then upright (accessed op t a x) else Err fault.BadAddress) (nothing_added (value x n) ∙ v)
    ∙ ap (λ m. if lies_in m a (size_of op) then upright (accessed op t a x) else Err fault.BadAddress) m
    ∙ ap (λ b. if b then upright (accessed op t a x) else Err fault.BadAddress) l
    ∙ ap upright (accessed_same op t a x y m r) ∙ even_done (accessed op t a y) e

pub access_apart : (op : AccessOp) (t n : ℕ) → t ≢ n → IsApart (access_at op t n)
unfolding reads_of writes_of sets_flags_of
access_apart op t n ne = record { regs = λ k e. go (is_store op) k e; flags = λ k e. refl }
  where
    go : (b : Bool) (k : ℕ) → ((k == n) || (false || (b && (k == t)))) ≡ true → ((not b && (k == t)) || (false && (k == n))) ≡ false
    go true k e = refl
    go false k e = let is : k ≡ n = eqb-true k n (one (k == n) e) in let f : (k == t) ≡ false = ne_eqb k t (λ (s : k ≡ t). ne (sym s ∙ is)) in rw f refl
      where
        one : (b : Bool) → (b || (false || (false && (k == t)))) ≡ true → b ≡ true
        one true e = refl
        one false e = absurd cc

pub access_unread : (op : AccessOp) (t n q : ℕ) → n ≢ q → t ≢ q → reads_of (access_at op t n) q ≡ false
unfolding reads_of
access_unread op t n q a b =
    let e : (q == n) ≡ false = ne_eqb q n (λ s. a (sym s)) in
    let f : (q == t) ≡ false = ne_eqb q t (λ s. b (sym s)) in
    go (is_store op) (q == n) (q == t) e f
  where
    go : (s a b : Bool) → a ≡ false → b ≡ false → (a || (false || (s && b))) ≡ false
    go true a b e f = cc
    go false a b e f = cc

pub access_reads : (op : AccessOp) (t n : ℕ) → reads_of (access_at op t n) n ≡ true
unfolding reads_of
access_reads op t n = here n _

pre_parts : (op : AccessOp) (t n imm : ℕ) (up : Bool) (y : Core) (h : Change) → done (instr.Access (record { op = op; t = t; n = n; place = Pre up imm })) y ≡ Ok h →
    Came (lies_in y.memory (moved up (value y n) imm) (size_of op)) (with_base n (moved up (value y n) imm) (accessed op t (moved up (value y n) imm) y)) h
unfolding meant change
pre_parts op t n imm up y h e = came (lies_in y.memory (moved up (value y n) imm) (size_of op)) (with_base n (moved up (value y n) imm) (accessed op t (moved up (value y n) imm) y)) h e

post_parts : (op : AccessOp) (t n imm : ℕ) (up : Bool) (y : Core) (h : Change) → done (instr.Access (record { op = op; t = t; n = n; place = Post up imm })) y ≡ Ok h →
    Came (lies_in y.memory (wrapped (value y n)) (size_of op)) (with_base n (moved up (value y n) imm) (accessed op t (wrapped (value y n)) y)) h
unfolding meant change
post_parts op t n imm up y h e = came (lies_in y.memory (wrapped (value y n)) (size_of op)) (with_base n (moved up (value y n) imm) (accessed op t (wrapped (value y n)) y)) h e

access_calm : (op : AccessOp) (t n : ℕ) (y : Core) (b : Bool) (imm : ℕ) → (done (instr.Access (record { op = op; t = t; n = n; place = Pre b imm })) y ≡ Err fault.Trap → ⊥) × (done (instr.Access (record { op = op; t = t; n = n; place = Post b imm })) y ≡ Err fault.Trap → ⊥)
unfolding meant
access_calm op t n y b imm = (
  (λ e. change_never_traps (instr.Access (record { op = op; t = t; n = n; place = Pre b imm })) nowhere y refl e),
  (λ e. change_never_traps (instr.Access (record { op = op; t = t; n = n; place = Post b imm })) nowhere y refl e),
)

pub pre_access_is_done : PreAccessCarries
pre_access_is_done op t n q k imm end up beside tn tq c = record {
  acts = λ y h b tt' m.
      let v : ℕ = moved up (value y n) imm in
      let g : Change = accessed op t v y in
      let p = pre_parts op t n imm up y h m in
      let there : n < length y.regs = let l = beside.base in let l' = b.count in omega arith in
      let y1 : Core = applied (writing ((n, plain v) ∷ [])) y in
      let f = access_step op t n v y1 y (ap (λ w. wrapped w.bits) (read_set y n (plain v) there) ∙ stays_small v (moved_small up (value y n) imm)) refl (λ e. get_or-set_other y.regs n t (plain v) (plain 0) tn) p.lies (others_even (n, plain v) g.regs p.even) in
      subst (λ (h : Change). Done end (done (summing up q n k) ∷ done (moving false n q) ∷ done (access_at op t n) ∷ []) q y h) p.made
      (base_first up n q k imm (access_at op t n) y g beside c refl (access_apart op t n tn) (access_unread op t n q beside.apart tq) (accessed_quiet op t v y []).falls b (alone (n, plain v) g.regs p.even) end f);
  rests = λ y b t. absurd cc;
  halts = λ y b r e. absurd ((access_calm op t n y up imm).0 e);
}

pub post_access_is_done : PostAccessCarries
post_access_is_done op t n q k imm end up beside tn tq c = record {
  acts = λ y h b tt' m.
      let a : ℕ = wrapped (value y n) in
      let g : Change = accessed op t a y in
      let p = post_parts op t n imm up y h m in
      let v : ℕ = moved up (value y n) imm in
      let f = access_step op t n a y y refl refl (λ e. refl) p.lies (others_even (n, plain v) g.regs p.even) in
      subst (λ (h : Change). Done end (done (access_at op t n) ∷ done (summing up q n k) ∷ done (moving false n q) ∷ []) q y h) p.made
      (base_behind up n q k imm (access_at op t n) y g beside c refl (access_apart op t n tn) (access_unread op t n q beside.apart tq) (accessed_quiet op t a y []).falls b (alone (n, plain v) g.regs p.even) end (access_reads op t n) f);
  rests = λ y b t. absurd cc;
  halts = λ y b r e. absurd ((access_calm op t n y up imm).1 e);
}
