-- Members that are the same, and what a unit leaves of them.
use Rattle.std.proofs.Common.{◌≡◌, ℕ, Bool, true, false, refl, ap, ◌∙◌, subst}
use Rattle.std.specs.Prelude.{not}
use Rattle.thumb_instr.specs.declared.conditions.Cond.{Cond}
use Rattle.thumb_instr.specs.declared.conditions.Cond.TheVariants.{Eq, Ne, Cs, Cc, Mi, Pl, Vs, Vc, Hi, Ls, Ge, Lt, Gt, Le, Al}
use Rattle.thumb_instr.specs.Sets.{cond_reads_of}
use Rattle.thumb_table.specs.States.{Core, read}
use Rattle.thumb_table.specs.Conditions.{holds}
use Rattle.sim_charts.specs.Charts.{Chart, may_fail}
use Rattle.sim_charts.specs.Words.{SameBits}
use Rattle.sim_charts.specs.Alike.{by_chart, SameMember, SameMemory, SameStore}
use Rattle.seq_core.specs.Does.{KeepsMember, SameBut}

-- a member that is the same, and kept on the hardened side
pub then_kept : (chart : Chart) (k : ℕ) (x y z : Core) → SameMember chart k x y → KeepsMember k y z → SameMember chart k x z
then_kept chart k x y z s h = record {
  word = λ b. subst (λ w. SameBits (by_chart chart) (read x k).mark (read x k).bits w) (h.word b) (s.word b);
  n = λ e. s.n e ∙ h.n e;
  z = λ e. s.z e ∙ h.z e;
  c = λ e. s.c e ∙ h.c e;
  v = λ e. s.v e ∙ h.v e;
}

pub store_kept : (chart : Chart) (loses : ℕ → Bool) (x y z : Core) → loses 13 ≡ false → SameMember chart 13 x y → SameMemory chart x.memory y.memory → SameBut loses y z → SameStore chart x z
store_kept chart loses x y z e s m h = record {
  stack = then_kept chart 13 x y z s (h.members 13 e);
  memory = subst (λ q. SameMemory chart x.memory q) h.memory m;
}

-- the same flags
module _ (chart : Chart) (x y : Core) where
  flags_n : SameMember chart 16 x y → x.n ≡ y.n
  flags_n s = s.n refl

  flags_z : SameMember chart 17 x y → x.z ≡ y.z
  flags_z s = s.z refl

  flags_c : SameMember chart 18 x y → x.c ≡ y.c
  flags_c s = s.c refl

  flags_v : SameMember chart 19 x y → x.v ≡ y.v
  flags_v s = s.v refl

  -- a condition that is read holds on both sides or on none
  pub holds_alike : (c : Cond) → ((k : ℕ) → cond_reads_of c k ≡ true → SameMember chart k x y) → holds c x ≡ holds c y
  holds_alike Eq f = flags_z (f 17 refl)
  holds_alike Ne f = ap not (flags_z (f 17 refl))
  holds_alike Cs f = flags_c (f 18 refl)
  holds_alike Cc f = ap not (flags_c (f 18 refl))
  holds_alike Mi f = flags_n (f 16 refl)
  holds_alike Pl f = ap not (flags_n (f 16 refl))
  holds_alike Vs f = flags_v (f 19 refl)
  holds_alike Vc f = ap not (flags_v (f 19 refl))
  holds_alike Hi f = let c = flags_c (f 18 refl) in let z = flags_z (f 17 refl) in cc
  holds_alike Ls f = let c = flags_c (f 18 refl) in let z = flags_z (f 17 refl) in cc
  holds_alike Ge f = let n = flags_n (f 16 refl) in let v = flags_v (f 19 refl) in cc
  holds_alike Lt f = let n = flags_n (f 16 refl) in let v = flags_v (f 19 refl) in cc
  holds_alike Gt f = let z = flags_z (f 17 refl) in let n = flags_n (f 16 refl) in let v = flags_v (f 19 refl) in cc
  holds_alike Le f = let z = flags_z (f 17 refl) in let n = flags_n (f 16 refl) in let v = flags_v (f 19 refl) in cc
  holds_alike Al f = refl

-- a condition that fails is one that may
pub fails_may : (c : Cond) (x : Core) → holds c x ≡ false → may_fail c ≡ true
fails_may Eq x e = refl
fails_may Ne x e = refl
fails_may Cs x e = refl
fails_may Cc x e = refl
fails_may Mi x e = refl
fails_may Pl x e = refl
fails_may Vs x e = refl
fails_may Vc x e = refl
fails_may Hi x e = refl
fails_may Ls x e = refl
fails_may Ge x e = refl
fails_may Lt x e = refl
fails_may Gt x e = refl
fails_may Le x e = refl
fails_may Al x e = absurd cc
