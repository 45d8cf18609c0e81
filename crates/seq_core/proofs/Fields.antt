-- Fields of bits that are cleared or put in: done again they stay.
use Rattle.std.proofs.Common.{◌≡◌, ◌≢◌, ℕ, ◌+◌, ◌*◌, ◌/◌, ◌%◌, ◌^◌, ◌<◌, false, [], ◌∷◌, length, inl, Ok, Err, refl, sym, ap, ◌∙◌, subst, arith, get_or-set_other, length-set}
use Rattle.std.proofs.lemmas.Nat.{div-mul-add, mul-add-lt, pow-add, pow_pos}
use Rattle.std.proofs.Math.Nat.{mul_comm, mul_left_comm, mod-mod, add-mul-mod_self_left}
use Rattle.mark_word.specs.Words.{plain}
use Rattle.thumb_table.specs.declared.faults.FaultKind.TheVariants as fault
use Rattle.thumb_table.specs.States.{Core, Change, Falls, applied, read, upright}
use Rattle.thumb_table.specs.Values.{with_field}
use Rattle.thumb_table.specs.Effects.{change, value, writing}
use Rattle.seq_core.specs.Meanings.{meant, nowhere}
use Rattle.seq_core.specs.Does.{SameBut, Begins, Effect}
use Rattle.seq_core.specs.Sequences.{Settles, Reaches}
use Rattle.seq_core.specs.Groups.{nothing, only, done, no_ends, moving}
use Rattle.seq_core.specs.Twice.{clearing, inserting, ClearCarries, InsertCarries}
use Rattle.seq_core.specs.Through.{InsertSelfCarries}
use Rattle.seq_core.proofs.Tests.{same_number}
use Rattle.seq_core.proofs.Written.{upright_is}
use Rattle.seq_core.proofs.Meaning.{change_never_traps}
use Rattle.seq_core.proofs.Twice.{settles, same_self, twice_settles}
use Rattle.seq_core.proofs.Near.{near_lost, near_applied, near_same, read_set}
use Rattle.seq_core.proofs.Through.{moving_away, move_low}
use Rattle.seq_core.proofs.Base.{even_done}
use Rattle.seq_core.proofs.Halves.{other_even}

-- a field that is put in twice
field_again : (lsb width v n : ℕ) → v < 2 ^ width → with_field lsb width v (with_field lsb width v n) ≡ with_field lsb width v n
field_again lsb width v n lt =
    let q : ℕ = n / 2 ^ (lsb + width) in
    let r : ℕ = n % 2 ^ lsb in
    let c : ℕ = 2 ^ (lsb + width) in
    let a : ℕ = 2 ^ lsb in
    let b : ℕ = 2 ^ width in
    let split : c ≡ a * b = pow-add 2 lsb width in
    let positive = pow_pos lsb in
    let small : r < a = omega arith in
    let inner : v * a + r < c = subst (λ (x : ℕ). v * a + r < x) (sym split) (mul-add-lt v a r b lt small) in
    let same : q * c + v * a + r ≡ q * c + (v * a + r) = omega arith in
    let high : (q * c + v * a + r) / c ≡ q = ap (λ x. x / c) same ∙ div-mul-add q c (v * a + r) inner in
    let shape : q * c + v * a + r ≡ r + a * v + a * (q * b) =
    (let e : q * c ≡ a * (q * b) = ap (λ x. q * x) split ∙ mul_left_comm q a b in
    let f : v * a ≡ a * v = mul_comm v a in
    omega (arith, e, f)) in
    let low : (q * c + v * a + r) % a ≡ r = ap (λ x. x % a) shape ∙ add-mul-mod_self_left (r + a * v) a (q * b) ∙ add-mul-mod_self_left r a v ∙ mod-mod n a in
    ap (λ x. x * c + v * a + (q * c + v * a + r) % a) high ∙ ap (λ x. q * c + v * a + x) low

-- an effect that puts a field in
module _ (e : Effect) (d lsb width : ℕ) (ne : d ≢ 13) (lt : d < 15) (v : ℕ) (fits : v < 2 ^ width) where
  abbrev field_of : Core → Change
  field_of y = writing ((d, plain (with_field lsb width v (value y d))) ∷ [])

  field_settles : (y : Core) → Begins y → e y ≡ upright (field_of y) → e (applied (field_of y) y) ≡ upright (field_of (applied (field_of y) y)) → Settles e y (applied (field_of y) y)
  field_settles y b f g =
      let there : d < length y.regs = let c = b.count in omega arith in
      let held : value (applied (field_of y) y) d ≡ with_field lsb width v (value y d) = ap (λ w. w.bits) (read_set y d (plain (with_field lsb width v (value y d))) there) in
      let same : field_of (applied (field_of y) y) ≡ field_of y = ap (λ x. writing ((d, plain (with_field lsb width v x)) ∷ [])) held ∙ ap (λ x. writing ((d, plain x) ∷ [])) (field_again lsb width v (value y d) fits) in
      let ok : upright (field_of y) ≡ Ok (field_of y) = even_done (field_of y) (other_even d (plain (with_field lsb width v (value y d))) ne) in
      settles e y (field_of y) b.clear refl refl (f ∙ ok) (g ∙ ap upright same ∙ ok)

clear_is : (d lsb width : ℕ) (y : Core) → done (clearing d lsb width) y ≡ upright (writing ((d, plain (with_field lsb width 0 (value y d))) ∷ []))
unfolding meant change
clear_is d lsb width y = refl

insert_is : (d n lsb width : ℕ) (y : Core) → done (inserting d n lsb width) y ≡ upright (writing ((d, plain (with_field lsb width (value y n % 2 ^ width) (value y d))) ∷ []))
unfolding meant change
insert_is d n lsb width y = refl

clear_calm : (d lsb width : ℕ) (y : Core) → done (clearing d lsb width) y ≡ Err fault.Trap → ⊥
unfolding meant
clear_calm d lsb width y e = change_never_traps (clearing d lsb width) nowhere y refl e

insert_calm : (d n lsb width : ℕ) (y : Core) → done (inserting d n lsb width) y ≡ Err fault.Trap → ⊥
unfolding meant
insert_calm d n lsb width y e = change_never_traps (inserting d n lsb width) nowhere y refl e

bits_fit : (n width : ℕ) → n % 2 ^ width < 2 ^ width
bits_fit n width = let p = pow_pos width in omega arith

pub clear_is_done : ClearCarries
clear_is_done d lsb width end lt ne = record {
  acts = λ y h b t m.
      let g : Change = writing ((d, plain (with_field lsb width 0 (value y d))) ∷ []) in
      let is : g ≡ h = upright_is g h (sym (clear_is d lsb width y) ∙ m) in
      let s = field_settles (done (clearing d lsb width)) d lsb width ne lt 0 (pow_pos width) y b (clear_is d lsb width y) (clear_is d lsb width (applied g y)) in
      subst (λ (h : Change). (z : Core) × Reaches Settles end (done (clearing d lsb width) ∷ []) y h.exit z × SameBut nothing (applied h y) z) is
      (applied g y, record { out = Falls; chain = inl (applied g y, s, (refl, refl)); there = refl }, same_self nothing (applied g y) s.clear);
  rests = λ y b t. absurd cc;
  halts = λ y b t e. absurd (clear_calm d lsb width y e);
}

-- the source stays where the field goes to another register
inserted : (d n lsb width : ℕ) (y : Core) → d ≢ 13 → d < 15 → n ≢ d → Begins y → let g : Change = writing ((d, plain (with_field lsb width (value y n % 2 ^ width) (value y d))) ∷ []) in Settles (done (inserting d n lsb width)) y (applied g y)
inserted d n lsb width y ne lt nd b =
    let v : ℕ = value y n % 2 ^ width in
    let g : Change = writing ((d, plain (with_field lsb width v (value y d))) ∷ []) in
    let kept : value (applied g y) n ≡ value y n = ap (λ w. w.bits) (get_or-set_other y.regs d n (plain (with_field lsb width v (value y d))) (plain 0) nd) in
    field_settles (done (inserting d n lsb width)) d lsb width ne lt v (bits_fit (value y n) width) y b (insert_is d n lsb width y)
    (insert_is d n lsb width (applied g y) ∙ ap (λ u. upright (writing ((d, plain (with_field lsb width (u % 2 ^ width) (value (applied g y) d))) ∷ []))) kept)

pub insert_is_done : InsertCarries
insert_is_done d n lsb width end lt ne nd = record {
  acts = λ y h b t m.
      let g : Change = writing ((d, plain (with_field lsb width (value y n % 2 ^ width) (value y d))) ∷ []) in
      let is : g ≡ h = upright_is g h (sym (insert_is d n lsb width y) ∙ m) in
      let s = inserted d n lsb width y ne lt nd b in
      subst (λ (h : Change). (z : Core) × Reaches Settles end (done (inserting d n lsb width) ∷ []) y h.exit z × SameBut nothing (applied h y) z) is
      (applied g y, record { out = Falls; chain = inl (applied g y, s, (refl, refl)); there = refl }, same_self nothing (applied g y) s.clear);
  rests = λ y b t. absurd cc;
  halts = λ y b t e. absurd (insert_calm d n lsb width y e);
}

pub insert_self_is_done : InsertSelfCarries
insert_self_is_done d q lsb width end lt ne lq dq = record {
  acts = λ y h b t m.
      let v : ℕ = value y d % 2 ^ width in
      let g : Change = writing ((d, plain (with_field lsb width v (value y d))) ∷ []) in
      let is : g ≡ h = upright_is g h (sym (insert_is d d lsb width y) ∙ m) in
      let h1 : Change = writing ((q, read y d) ∷ []) in
      let t1 = twice_settles (moving false q d) no_ends y h1 refl (moving_away q d lq dq lt) b.clear (move_low q d y lq) in
      let y1 : Core = applied h1 y in
      let there : q < length y.regs = let c = b.count in omega arith in
      let b1 : Begins y1 = record { count = length-set y.regs q (read y d) ∙ b.count; clear = t1.clear } in
      let in_q : value y1 q ≡ value y d = ap (λ w. w.bits) (read_set y q (read y d) there) in
      let in_d : value y1 d ≡ value y d = ap (λ w. w.bits) (get_or-set_other y.regs q d (read y d) (plain 0) dq) in
      let g1 : Change = writing ((d, plain (with_field lsb width (value y1 q % 2 ^ width) (value y1 d))) ∷ []) in
      let same : g1 ≡ g = ap (λ u. writing ((d, plain (with_field lsb width (u % 2 ^ width) (value y1 d))) ∷ [])) in_q ∙ ap (λ u. writing ((d, plain (with_field lsb width v u)) ∷ [])) in_d in
      let t2 = inserted d q lsb width y1 ne lt (λ e. dq (sym e)) b1 in
      let near = near_applied (only q) g1 y y1 (near_lost (only q) y q (read y d) (same_number q)) in
      subst (λ (h : Change). (z : Core) × Reaches Settles end (done (moving false q d) ∷ done (inserting d q lsb width) ∷ []) y h.exit z × SameBut (only q) (applied h y) z) (same ∙ is)
      (applied g1 y1, record { out = Falls; chain = inl (y1, t1, inl (applied g1 y1, t2, (refl, refl))); there = refl }, near_same (only q) (applied g1 y) (applied g1 y1) near t2.clear);
  rests = λ y b t. absurd cc;
  halts = λ y b t e. absurd (insert_calm d d lsb width y e);
}
