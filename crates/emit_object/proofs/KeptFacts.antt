-- Bytes that are cleared, word by word.
use Rattle.std.proofs.Common.{◌≡◌, ◌<◌, ℕ, ◌+◌, add-one, Bool, true, false, cond, List, [], ◌∷◌, ◌++◌, length, map, take, get_or, refl, sym, ap, ap₂, ◌∙◌, inl, inr, arith, Option, Some, None, Vec, Global}
use Rattle.std.specs.Prelude.{slice_get, nat_le, nat_lt, ◌==◌, ◌&&◌, ◌||◌}
use Rattle.std.specs.List.{list_any}
use Rattle.std.specs.Option.{option_map}
use Rattle.std.proofs.Math.Seq.{take-suc}
use Rattle.std.proofs.lemmas.Bool.{and_parts, true≢false, cases_eq, eq-eqb, ne_eqb}
use Rattle.std.proofs.lemmas.List.{length-map}
use Rattle.std.proofs.lemmas.List.Folds.{list_any-append}
use Rattle.std.proofs.lemmas.Option.{same_Some, slice_get-map, slice_get_within, slice_get-get_or}
use Rattle.elf_model.specs.declared.objects.Section.{Section}
use Rattle.elf_model.specs.declared.objects.Reloc.{Reloc}
use Rattle.elf_model.specs.Fields.{byte_at}
use Rattle.elf_model.specs.Objects.{ObjectParts, is_object, is_placed, is_kind}
use Rattle.elf_model.proofs.Elements.{element_at}
use Rattle.code_ranges.proofs.ObjectFacts.{reloc_sound}
use Rattle.hardened_form.specs.Turns.{is_turned}
use Rattle.emit_object.specs.KeptBytes.{AreCleared, is_among, IsClearedIn, clears, AreClearedFor, kept_of, AreKept}

-- a test that none passes clears nothing
cleared_none : (test : ℕ → Bool) (old new : List ℕ) → ((x : ℕ) → test x ≡ false) → new ≡ old → AreCleared test old new
cleared_none test old new none same = record {
  count = ap length same;
  bytes = λ x low. ap (λ (l : List ℕ). byte_at l x) same ∙ sym (ap (λ (b : Bool). cond b 0 (byte_at old x)) (none x));
}

-- one test after another
cleared_both : (p q r : ℕ → Bool) (a b c : List ℕ) → ((x : ℕ) → r x ≡ (p x || q x)) → AreCleared p a b → AreCleared q b c → AreCleared r a c
cleared_both p q r a b c both one two = record {
  count = two.count ∙ one.count;
  bytes = λ x low.
      let one_count = one.count in
      two.bytes x (omega arith) ∙ ap (λ (n : ℕ). cond (q x) 0 n) (one.bytes x low) ∙ go (p x) (q x) (byte_at a x) ∙ sym (ap (λ (t : Bool). cond t 0 (byte_at a x)) (both x));
}
  where
    go : (s t : Bool) (n : ℕ) → cond t 0 (cond s 0 n) ≡ cond (s || t) 0 n
    go true true n = refl
    go true false n = refl
    go false true n = refl
    go false false n = refl

cleared_as : (p q : ℕ → Bool) (a b : List ℕ) → ((x : ℕ) → q x ≡ p x) → AreCleared p a b → AreCleared q a b
cleared_as p q a b same are = record { count = are.count; bytes = λ x low. are.bytes x low ∙ sym (ap (λ (t : Bool). cond t 0 (byte_at a x)) (same x)) }

module _ (o : ObjectParts) (r : Reloc) where
  at_turned : is_turned o r ≡ true → (j x : ℕ) → r.section ≡ j → clears o j x r ≡ is_among r.offset 4 x
  at_turned t j x e = ap₂ (λ (s u : Bool). s && (nat_le r.offset x && (nat_lt x (r.offset + 4) && u))) (eq-eqb r.section j e) t ∙ go (nat_le r.offset x) (nat_lt x (r.offset + 4))
    where
      go : (a b : Bool) → (true && (a && (b && true))) ≡ (a && b)
      go true true = refl
      go true false = refl
      go false b = refl

  elsewhere : (j x : ℕ) → (r.section ≡ j → ⊥) → clears o j x r ≡ false
  elsewhere j x ne = ap (λ (s : Bool). s && (nat_le r.offset x && (nat_lt x (r.offset + 4) && is_turned o r))) (ne_eqb r.section j ne)

  straight : is_turned o r ≡ false → (j x : ℕ) → clears o j x r ≡ false
  straight t j x = ap (λ (u : Bool). (r.section == j) && (nat_le r.offset x && (nat_lt x (r.offset + 4) && u))) t ∙ go (r.section == j) (nat_le r.offset x) (nat_lt x (r.offset + 4))
    where
      go : (s a b : Bool) → (s && (a && (b && false))) ≡ false
      go true true true = refl
      go true true false = refl
      go true false b = refl
      go false a b = refl

  same_vec : (j : ℕ) (old new : List (Vec ℕ Global)) (v w : Vec ℕ Global) → slice_get new j ≡ slice_get old j → slice_get old j ≡ Some v → slice_get new j ≡ Some w → w.items ≡ v.items
  same_vec j old new v w e a b = ap (λ (z : Vec ℕ Global). z.items) (sym (same_Some v w (sym a ∙ sym e ∙ b)))

  pub turned_cleared : (old new : List (Vec ℕ Global)) → is_turned o r ≡ true → IsClearedIn r.section r.offset old new → AreClearedFor o r old new
  turned_cleared old new t is = record {
    count = is.count;
    each = λ j v w a b. elim (cases_eq r.section j) [
      | inl e ↦
          cleared_as (is_among r.offset 4) (λ x. clears o j x r) v.items w.items (λ x. at_turned t j x e)
          (is.here v w (ap (slice_get old) e ∙ a) (ap (slice_get new) e ∙ b))
      | inr ne ↦ cleared_none (λ x. clears o j x r) v.items w.items (λ x. elsewhere j x ne) (same_vec j old new v w (is.others j (λ e. ne (sym e))) a b)
    ];
  }

  pub straight_cleared : (all : List (Vec ℕ Global)) → is_turned o r ≡ false → AreClearedFor o r all all
  straight_cleared all t = record {
    count = refl;
    each = λ j v w a b. cleared_none (λ x. clears o j x r) v.items w.items (straight t j) (same_vec j all all v w refl a b);
  }

-- copies, as long as no relocation was looked at
pub kept_first : (o : ObjectParts) (all : List (Vec ℕ Global)) → map (λ (v : Vec ℕ Global). v.items) all ≡ map kept_of o.sections → AreKept o [] all
kept_first o all same = record {
  count = sym (length-map all (λ (v : Vec ℕ Global). v.items)) ∙ ap length same ∙ length-map o.sections kept_of;
  each = λ j s v a b.
      let one : slice_get (map kept_of o.sections) j ≡ Some (kept_of s) = slice_get-map kept_of o.sections j ∙ ap (option_map kept_of) a in
      let two : slice_get (map (λ (z : Vec ℕ Global). z.items) all) j ≡ Some v.items = slice_get-map (λ (z : Vec ℕ Global). z.items) all j ∙ ap (option_map (λ (z : Vec ℕ Global). z.items)) b in
      cleared_none (λ x. list_any (clears o j x) []) (kept_of s) v.items (λ x. refl) (same_Some v.items (kept_of s) (sym two ∙ ap (λ (l : List (List ℕ)). slice_get l j) same ∙ one));
}

-- one relocation more
pub kept_more : (o : ObjectParts) (k : ℕ) (r : Reloc) (relocs : List Reloc) (old new : List (Vec ℕ Global)) → k < length relocs → r ≡ get_or relocs k r → AreKept o (take k relocs) old → AreClearedFor o r old new → AreKept o (take (k + 1) relocs) new
kept_more o k r relocs old new low at kept cleared = record {
  count = cleared.count ∙ kept.count;
  each = λ j s w a b.
      let count = cleared.count in
      let within = slice_get_within new j w b in
      let v = element_at old j (omega arith) in
      cleared_both (λ x. list_any (clears o j x) (take k relocs)) (λ x. clears o j x r) (λ x. list_any (clears o j x) (take (k + 1) relocs)) (kept_of s) v.0.items w.items
      (λ x. ap (list_any (clears o j x)) next ∙ list_any-append (clears o j x) (take k relocs) (r ∷ []) ∙ ap (λ (t : Bool). list_any (clears o j x) (take k relocs) || t) (or_false (clears o j x r)))
      (kept.each j s v.0 a v.1) (cleared.each j v.0 w v.1 b);
}
  where
    or_false : (t : Bool) → (t || false) ≡ t
    or_false true = refl
    or_false false = refl

    next : take (k + 1) relocs ≡ take k relocs ++ r ∷ []
    next = rw add-one (take-suc relocs k r low ∙ ap (λ (z : Reloc). take k relocs ++ z ∷ []) (sym at))

-- what holds of each relocation of an object, by the list that a loop reads
module _ (o : ObjectParts) (relocs : List Reloc) (same : relocs ≡ o.relocs) (k : ℕ) (d : Reloc) (low : k < length relocs) where
  pub reloc_there : slice_get o.relocs k ≡ Some (get_or relocs k d)
  reloc_there = ap (λ (l : List Reloc). slice_get l k) (sym same) ∙ slice_get-get_or relocs k d low

  pub reloc_section : is_object o ≡ true → (all : List (Vec ℕ Global)) → length all ≡ length o.sections → (get_or relocs k d).section < length all
  reloc_section sound all count =
      let is = reloc_sound o k (get_or relocs k d) sound reloc_there in
      let placed = (and_parts (is_placed (get_or relocs k d) (slice_get o.sections (get_or relocs k d).section)) (is_kind (get_or relocs k d).kind)
      (and_parts (is_placed (get_or relocs k d) (slice_get o.sections (get_or relocs k d).section) && is_kind (get_or relocs k d).kind) (nat_lt (get_or relocs k d).symbol (length o.symbols)) is).0).0 in
      go (slice_get o.sections (get_or relocs k d).section) refl placed
    where
      go : (s : Option Section) → slice_get o.sections (get_or relocs k d).section ≡ s → is_placed (get_or relocs k d) s ≡ true → (get_or relocs k d).section < length all
      go None e p = absurd (true≢false (sym p))
      go (Some s) e p = let within = slice_get_within o.sections (get_or relocs k d).section s e in omega arith

  pub kept_next : (old new : List (Vec ℕ Global)) → AreKept o (take k o.relocs) old → AreClearedFor o (get_or relocs k d) old new → AreKept o (take (k + 1) o.relocs) new
  kept_next old new kept cleared =
      kept_more o k (get_or relocs k d) o.relocs old new (let long = ap length same in omega arith) (ap (λ (l : List Reloc). get_or l k d) same
      ∙ same_Some (get_or o.relocs k d) (get_or o.relocs k (get_or relocs k d)) (sym (slice_get-get_or o.relocs k d (let long = ap length same in omega arith)) ∙ slice_get-get_or o.relocs k (get_or relocs k d) (let long = ap length same in omega arith))) kept cleared
