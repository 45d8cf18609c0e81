-- Long products, by way of scratch registers.
use Rattle.std.proofs.Common.{◌≡◌, ◌≢◌, ℕ, ◌/◌, ◌^◌, ◌<◌, Bool, true, false, [], ◌∷◌, length, inl, Ok, Err, refl, sym, ap, ◌∙◌, subst, arith, ne_eqb, set, get_or-set_other, length-set}
use Rattle.std.specs.Prelude.{◌==◌, ◌||◌}
use Rattle.std.specs.List.{list_any}
use Rattle.std.proofs.lemmas.Bool.{eqb-true}
use Rattle.std.proofs.lemmas.List.{set_comm}
use Rattle.mark_word.specs.Words.{Word, plain}
use Rattle.thumb_instr.specs.Sets.{reads_of, writes_of, sets_flags_of}
use Rattle.thumb_table.specs.declared.faults.FaultKind.TheVariants as fault
use Rattle.thumb_table.specs.States.{Core, Change, Falls, applied, read, is_askew}
use Rattle.thumb_table.specs.Values.{wrapped, long_product}
use Rattle.thumb_table.specs.Effects.{change, value, writing, two_words}
use Rattle.seq_core.specs.Meanings.{meant, nowhere}
use Rattle.seq_core.specs.Does.{SameBut}
use Rattle.seq_core.specs.Apart.{IsApart, goes_on_always}
use Rattle.seq_core.specs.Sequences.{Reaches, Settles}
use Rattle.seq_core.specs.Groups.{done, no_ends, moving}
use Rattle.seq_core.specs.Through.{long_product_to, product_of, LongProductCarries, LowProductCarries, HighProductCarries}
use Rattle.seq_core.proofs.Tests.{same_number, left, there}
use Rattle.seq_core.proofs.Written.{upright_is}
use Rattle.seq_core.proofs.Meaning.{change_never_traps}
use Rattle.seq_core.proofs.Twice.{twice_settles}
use Rattle.seq_core.proofs.Near.{Near, near_lost, near_through, near_applied, near_same, read_set}
use Rattle.seq_core.proofs.Through.{moving_apart, move_other}
use Rattle.seq_core.proofs.Base.{even_done}

-- the product, before it is added
unfoldable pub product : Bool → Core → ℕ → ℕ → ℕ
product is_signed y n m = long_product (product_of is_signed) (value y n) (value y m) 0

two_even : (a b p : ℕ) → a ≢ 13 → b ≢ 13 → list_any is_askew (two_words a b p).regs ≡ false
two_even a b p la lb = let e : (a == 13) ≡ false = ne_eqb a 13 la in let f : (b == 13) ≡ false = ne_eqb b 13 lb in rw (e, f) refl

pub below_sp : (a : ℕ) → a < 13 → a ≢ 13
below_sp a lt e = omega arith

pub product_done : (is_signed : Bool) (a b n m : ℕ) (y : Core) → a ≢ 13 → b ≢ 13 → done (long_product_to (product_of is_signed) a b n m) y ≡ Ok (two_words a b (product is_signed y n m))
unfolding meant change product
product_done true a b n m y la lb = even_done (two_words a b (long_product (product_of true) (value y n) (value y m) 0)) (two_even a b (long_product (product_of true) (value y n) (value y m) 0) la lb)
product_done false a b n m y la lb = even_done (two_words a b (long_product (product_of false) (value y n) (value y m) 0)) (two_even a b (long_product (product_of false) (value y n) (value y m) 0) la lb)

apart_of : (a b n m k : ℕ) → n ≢ a → m ≢ a → n ≢ b → m ≢ b → ((k == n) || ((k == m) || false)) ≡ true → ((k == a) || (k == b)) ≡ false
apart_of a b n m k na ma nb mb e = none (k == n) (k == m) (λ s. both n (eqb-true k n s) na nb) (λ s. both m (eqb-true k m s) ma mb) e
  where
    both : (r : ℕ) → k ≡ r → r ≢ a → r ≢ b → ((k == a) || (k == b)) ≡ false
    both r s x y = let f : (k == a) ≡ false = ne_eqb k a (λ h. x (sym s ∙ h)) in let g : (k == b) ≡ false = ne_eqb k b (λ h. y (sym s ∙ h)) in rw (f, g) refl

    none : (u v : Bool) → (u ≡ true → ((k == a) || (k == b)) ≡ false) → (v ≡ true → ((k == a) || (k == b)) ≡ false) → (u || (v || false)) ≡ true → ((k == a) || (k == b)) ≡ false
    none true v f g e = f refl
    none false true f g e = g refl
    none false false f g e = absurd cc

pub product_apart : (is_signed : Bool) (a b n m : ℕ) → n ≢ a → m ≢ a → n ≢ b → m ≢ b → IsApart (long_product_to (product_of is_signed) a b n m)
unfolding reads_of writes_of sets_flags_of
product_apart true a b n m na ma nb mb = record { regs = λ k e. apart_of a b n m k na ma nb mb e; flags = λ k e. refl }
product_apart false a b n m na ma nb mb = record { regs = λ k e. apart_of a b n m k na ma nb mb e; flags = λ k e. refl }

pub not_same : (k a : ℕ) → (k == a) ≡ false → k ≢ a
not_same k a e s = let t : (k == a) ≡ true = ap (λ r. k == r) (sym s) ∙ same_number k in absurd cc

pub other : (y : Core) (k d : ℕ) (w : Word) → k ≢ d → value (applied (writing ((d, w) ∷ [])) y) k ≡ value y k
other y k d w ne = ap (λ v. v.bits) (get_or-set_other y.regs d k w (plain 0) ne)

-- CLASS THROUGH, of long products that read both destinations
two_lost : (u v : Bool) → (u || v) ≡ false → (u ≡ false) × (v ≡ false)
two_lost true v e = absurd cc
two_lost false v e = (refl, e)

product_made : (is_signed : Bool) (lo hi n m : ℕ) (y : Core) (h : Change) → done (long_product_to (product_of is_signed) lo hi n m) y ≡ Ok h → two_words lo hi (product is_signed y n m) ≡ h
unfolding meant change product
product_made true lo hi n m y h e = upright_is (two_words lo hi (long_product (product_of true) (value y n) (value y m) 0)) h e
product_made false lo hi n m y h e = upright_is (two_words lo hi (long_product (product_of false) (value y n) (value y m) 0)) h e

product_calm : (is_signed : Bool) (lo hi n m : ℕ) (y : Core) → done (long_product_to (product_of is_signed) lo hi n m) y ≡ Err fault.Trap → ⊥
unfolding meant
product_calm is_signed lo hi n m y e = change_never_traps (long_product_to (product_of is_signed) lo hi n m) nowhere y refl e

pub long_product_is_done : LongProductCarries
long_product_is_done is_signed a b lo hi n m end la lb ab loa lob hia hib na n_b ma mb lo_kept hi_kept = record {
  acts = λ y h bg t made.
      let p : ℕ = product is_signed y n m in
      let is = product_made is_signed lo hi n m y h made in
      let g : Change = two_words a b p in
      let t1 = twice_settles (long_product_to (product_of is_signed) a b n m) no_ends y g (on is_signed) (product_apart is_signed a b n m na ma n_b mb) bg.clear (product_done is_signed a b n m y (below_sp a la) (below_sp b lb)) in
      let y1 : Core = applied g y in
      let ya : Core = applied (writing ((a, plain (wrapped p)) ∷ [])) y in
      let in_a : a < length y.regs = let c = bg.count in omega arith in
      let in_b : b < length ya.regs = let c = bg.count in let l = length-set y.regs a (plain (wrapped p)) in omega arith in
      let r_a : read y1 a ≡ plain (wrapped p) = get_or-set_other ya.regs b a (plain (p / 2 ^ 32)) (plain 0) ab ∙ read_set y a (plain (wrapped p)) in_a in
      let r_b : read y1 b ≡ plain (p / 2 ^ 32) = read_set ya b (plain (p / 2 ^ 32)) in_b in
      let h2 : Change = writing ((lo, plain (wrapped p)) ∷ []) in
      let f2 : done (moving false lo a) y1 ≡ Ok h2 = move_other lo a y1 lo_kept ∙ ap (λ w. Ok (writing ((lo, w) ∷ []))) r_a in
      let t2 = twice_settles (moving false lo a) no_ends y1 h2 refl (moving_apart false lo a la loa) t1.clear f2 in
      let y2 : Core = applied h2 y1 in
      let h3 : Change = writing ((hi, plain (p / 2 ^ 32)) ∷ []) in
      let f3 : done (moving false hi b) y2 ≡ Ok h3 = move_other hi b y2 hi_kept ∙ ap (λ w. Ok (writing ((hi, w) ∷ []))) (get_or-set_other y1.regs lo b (plain (wrapped p)) (plain 0) (λ e. lob (sym e)) ∙ r_b) in
      let t3 = twice_settles (moving false hi b) no_ends y2 h3 refl (moving_apart false hi b lb hib) t2.clear f3 in
      let loses : ℕ → Bool = λ k. (k == a) || (k == b) in
      let nb : Near loses ya (applied (writing ((b, plain (p / 2 ^ 32)) ∷ [])) ya) = near_lost loses ya b (plain (p / 2 ^ 32)) (there (b == a) (b == b) (same_number b)) in
      let n0 : Near loses ya y1 = record { count = nb.count; regs = nb.regs; n = nb.n; z = nb.z; c = nb.c; v = nb.v; memory = nb.memory } in
      let n1 : Near loses y y1 = near_through loses y ya y1 (near_lost loses y a (plain (wrapped p)) (left (a == a) (a == b) (same_number a))) n0 in
      let n2 = near_applied loses (two_words lo hi p) y y1 n1 in
      let z : Core = applied h3 y2 in
      let near : Near loses (applied (two_words lo hi p) y) z = record { count = n2.count; regs = n2.regs; n = n2.n; z = n2.z; c = n2.c; v = n2.v; memory = n2.memory } in
      subst (λ (h : Change). (z : Core) × Reaches Settles end (done (long_product_to (product_of is_signed) a b n m) ∷ done (moving false lo a) ∷ done (moving false hi b) ∷ []) y h.exit z × SameBut loses (applied h y) z) is
      (z, record { out = Falls; chain = inl (y1, t1, inl (y2, t2, inl (z, t3, (refl, refl)))); there = refl }, near_same loses (applied (two_words lo hi p) y) z near t3.clear);
  rests = λ y b t. absurd cc;
  halts = λ y b t e. absurd (product_calm is_signed lo hi n m y e);
}
  where
    on : (s : Bool) → goes_on_always (long_product_to (product_of s) a b n m) ≡ true
    on true = refl
    on false = refl

goes : (is_signed : Bool) (lo hi n m : ℕ) → goes_on_always (long_product_to (product_of is_signed) lo hi n m) ≡ true
goes true lo hi n m = refl
goes false lo hi n m = refl

pub low_product_is_done : LowProductCarries
low_product_is_done is_signed q lo hi n m end lt loq hiq nq mq nhi mhi lohi lo_kept hi_kept = record {
  acts = λ y h bg t made.
      let p : ℕ = product is_signed y n m in
      let is = product_made is_signed lo hi n m y h made in
      let g : Change = two_words q hi p in
      let t1 = twice_settles (long_product_to (product_of is_signed) q hi n m) no_ends y g (goes is_signed q hi n m) (product_apart is_signed q hi n m nq mq nhi mhi) bg.clear (product_done is_signed q hi n m y (below_sp q lt) hi_kept) in
      let y1 : Core = applied g y in
      let yq : Core = applied (writing ((q, plain (wrapped p)) ∷ [])) y in
      let in_q : q < length y.regs = let c = bg.count in omega arith in
      let held : read y1 q ≡ plain (wrapped p) = get_or-set_other yq.regs hi q (plain (p / 2 ^ 32)) (plain 0) (λ e. hiq (sym e)) ∙ read_set y q (plain (wrapped p)) in_q in
      let h2 : Change = writing ((lo, plain (wrapped p)) ∷ []) in
      let f2 : done (moving false lo q) y1 ≡ Ok h2 = move_other lo q y1 lo_kept ∙ ap (λ w. Ok (writing ((lo, w) ∷ []))) held in
      let t2 = twice_settles (moving false lo q) no_ends y1 h2 refl (moving_apart false lo q lt loq) t1.clear f2 in
      let z : Core = applied h2 y1 in
      let loses : ℕ → Bool = λ k. k == q in
      let n2 = near_applied loses (two_words lo hi p) y yq (near_lost loses y q (plain (wrapped p)) (same_number q)) in
      let turn : set (set yq.regs lo (plain (wrapped p))) hi (plain (p / 2 ^ 32)) ≡ z.regs = set_comm yq.regs lo hi (plain (wrapped p)) (plain (p / 2 ^ 32)) lohi in
      let n3 : Near loses (applied (two_words lo hi p) y) (record z { regs = set (set yq.regs lo (plain (wrapped p))) hi (plain (p / 2 ^ 32)) }) = record { count = n2.count; regs = n2.regs; n = n2.n; z = n2.z; c = n2.c; v = n2.v; memory = n2.memory } in
      let near : Near loses (applied (two_words lo hi p) y) z = subst (λ l. Near loses (applied (two_words lo hi p) y) (record z { regs = l })) turn n3 in
      subst (λ (h : Change). (z : Core) × Reaches Settles end (done (long_product_to (product_of is_signed) q hi n m) ∷ done (moving false lo q) ∷ []) y h.exit z × SameBut loses (applied h y) z) is
      (z, record { out = Falls; chain = inl (y1, t1, inl (z, t2, (refl, refl))); there = refl }, near_same loses (applied (two_words lo hi p) y) z near t2.clear);
  rests = λ y b t. absurd cc;
  halts = λ y b t e. absurd (product_calm is_signed lo hi n m y e);
}

pub high_product_is_done : HighProductCarries
high_product_is_done is_signed q lo hi n m end lt loq hiq nq mq nlo mlo lo_kept hi_kept = record {
  acts = λ y h bg t made.
      let p : ℕ = product is_signed y n m in
      let is = product_made is_signed lo hi n m y h made in
      let g : Change = two_words lo q p in
      let t1 = twice_settles (long_product_to (product_of is_signed) lo q n m) no_ends y g (goes is_signed lo q n m) (product_apart is_signed lo q n m nlo mlo nq mq) bg.clear (product_done is_signed lo q n m y lo_kept (below_sp q lt)) in
      let y1 : Core = applied g y in
      let yl : Core = applied (writing ((lo, plain (wrapped p)) ∷ [])) y in
      let in_q : q < length yl.regs = let c = bg.count in let l = length-set y.regs lo (plain (wrapped p)) in omega arith in
      let held : read y1 q ≡ plain (p / 2 ^ 32) = read_set yl q (plain (p / 2 ^ 32)) in_q in
      let h2 : Change = writing ((hi, plain (p / 2 ^ 32)) ∷ []) in
      let f2 : done (moving false hi q) y1 ≡ Ok h2 = move_other hi q y1 hi_kept ∙ ap (λ w. Ok (writing ((hi, w) ∷ []))) held in
      let t2 = twice_settles (moving false hi q) no_ends y1 h2 refl (moving_apart false hi q lt hiq) t1.clear f2 in
      let z : Core = applied h2 y1 in
      let loses : ℕ → Bool = λ k. k == q in
      let n2 = near_applied loses h2 yl (applied (writing ((q, plain (p / 2 ^ 32)) ∷ [])) yl) (near_lost loses yl q (plain (p / 2 ^ 32)) (same_number q)) in
      let near : Near loses (applied (two_words lo hi p) y) z = record { count = n2.count; regs = n2.regs; n = n2.n; z = n2.z; c = n2.c; v = n2.v; memory = n2.memory } in
      subst (λ (h : Change). (z : Core) × Reaches Settles end (done (long_product_to (product_of is_signed) lo q n m) ∷ done (moving false hi q) ∷ []) y h.exit z × SameBut loses (applied h y) z) is
      (z, record { out = Falls; chain = inl (y1, t1, inl (z, t2, (refl, refl))); there = refl }, near_same loses (applied (two_words lo hi p) y) z near t2.clear);
  rests = λ y b t. absurd cc;
  halts = λ y b t e. absurd (product_calm is_signed lo hi n m y e);
}
