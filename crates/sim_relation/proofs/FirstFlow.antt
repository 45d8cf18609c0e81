-- The first row is accepted: its flow has the two points, and no refusal applies.
use Rattle.std.proofs.Common.{◌≡◌, ℕ, zero, suc, ◌<◌, ⊎_elim, inr, Bool, true, false, [], ◌∷◌, Some, Ok, Err, refl, sym, ap, ◌∙◌, subst, arith}
use Rattle.std.specs.Prelude.{◌==◌, ◌&&◌, ◌||◌, slice_get, Contains}
use Rattle.std.proofs.lemmas.Bool.{ne_eqb, both_ways, eqb-true}
use Rattle.std.proofs.lemmas.Option.{none-some, same_Some}
use Rattle.elf_model.specs.declared.objects.Section.{Section}
use Rattle.elf_model.specs.declared.objects.Symbol.{Symbol}
use Rattle.elf_model.specs.declared.objects.Home.{Home}
use Rattle.elf_model.specs.declared.objects.Home.TheVariants as homes
use Rattle.elf_model.specs.declared.ranges.RangeKind.{RangeKind}
use Rattle.elf_model.specs.declared.ranges.RangeKind.TheVariants.{Code, Arm, Data}
use Rattle.elf_model.specs.Objects.{even}
use Rattle.elf_model.specs.Ranges.{IsBeginning, IsRange, first as starts, next as goes, is_mapping, is_mapping_of, mapping_name, stands_at, is_mapped}
use Rattle.thumb_instr.specs.HalfRows.{half_rows}
use Rattle.thumb_instr.specs.declared.instructions.Instr.{Instr}
use Rattle.thumb_instr.specs.Rows.{Answer}
use Rattle.reloc_places.specs.Starts.{bytes_of, IsCodeStart, instr_at}
use Rattle.flow_recover.specs.Aims.{IsNamed, by_symbol, by_address, by_branch, is_entry, has_offset}
use Rattle.flow_recover.specs.Reach.{IsFound, GoesOn, by_falling, by_return, node_behind, node_at, LeadsOn, on, LeadsAway, away, IsReached, named, led_on, led_away}
use Rattle.hardened_form.specs.FirstRow.{plain, movs, bx_lr, text_of, code_symbol, function_symbol}
use Rattle.sim_relation.proofs.ShortLists.{either, at_two}

abbrev text : Section
text = text_of 4 (0x05 ∷ 0x20 ∷ 0x70 ∷ 0x47 ∷ [])

-- ranges
begins : IsBeginning plain Code 0 0
begins = record { index = 0; symbol = code_symbol; is_there = refl; is_kind = refl; stands = refl; last = last }
  where
    last : (k : ℕ) (other : Symbol) → 0 < k → slice_get plain.symbols k ≡ Some other → is_mapping other ≡ true → stands_at 0 0 other.home other.value ≡ false
    last zero other l e m = absurd (omega arith)
    last (suc zero) other l e m = absurd (both_ways (is_mapping other) (ap is_mapping (sym (same_Some (function_symbol 4) other e))) m)
    last (suc (suc k)) other l e m = absurd (none-some other e)

pub range : IsRange plain Code 0 0 4
range = record {
  section = text;
  is_there = refl;
  in_code = refl;
  begins = begins;
  has_bytes = omega arith;
  inside = omega arith;
  ends = inr refl;
  nearest = λ x low high. let apart : 0 ≡ x → ⊥ = (λ e. omega arith) in ap (λ (b : Bool). b || false) (ne_eqb 0 x apart);
}

record Known (kind : RangeKind) (j x : ℕ) : Type 0 where
  section : j ≡ 0
  place : x ≡ 0
  names : is_mapping_of (mapping_name kind) code_symbol ≡ true

both_hold : (x y : Bool) → (x && y) ≡ true → (x ≡ true) × (y ≡ true)
both_hold true y e = (refl, e)
both_hold false y e = absurd (both_ways false refl e)

or_false : (x : Bool) → (x || false) ≡ x
or_false true = refl
or_false false = refl

stands_there : (j x k value : ℕ) → stands_at j x (homes.Section k) value ≡ true → (k ≡ j) × (value ≡ x)
stands_there j x k value e = let h = both_hold (k == j) (value == x) e in (eqb-true k j h.0, eqb-true value x h.1)

known : (kind : RangeKind) (j x : ℕ) → IsBeginning plain kind j x → Known kind j x
known kind j x b = ⊎_elim
    (λ (h : (b.index ≡ 0) × (code_symbol ≡ b.symbol)).
    let there = stands_there j x 0 0 (ap (λ (s : Symbol). stands_at j x s.home s.value) h.1 ∙ b.stands) in
    record { section = sym there.0; place = sym there.1; names = ap (is_mapping_of (mapping_name kind)) h.1 ∙ b.is_kind })
    (λ (h : (b.index ≡ 1) × (function_symbol 4 ≡ b.symbol)). absurd (no_function kind (ap (is_mapping_of (mapping_name kind)) h.1 ∙ b.is_kind)))
    (at_two code_symbol (function_symbol 4) b.symbol b.index b.is_there)
  where
    no_function : (kind : RangeKind) → is_mapping_of (mapping_name kind) (function_symbol 4) ≡ true → ⊥
    no_function Code e = both_ways true (sym e) refl
    no_function Arm e = both_ways true (sym e) refl
    no_function Data e = both_ways true (sym e) refl

pub known_kind : (kind : RangeKind) (j x : ℕ) → IsBeginning plain kind j x → is_mapping_of (mapping_name kind) code_symbol ≡ true
known_kind kind j x b = (known kind j x b).names

-- the end of a range
pub end_is : (kind : RangeKind) (j start end : ℕ) → IsRange plain kind j start end → (j ≡ 0) × (start ≡ 0) × (end ≡ 4)
end_is kind j start end r =
    let k = known kind j start r.begins in
    let there : text ≡ r.section = same_Some text r.section (ap (slice_get plain.sections) (sym k.section) ∙ r.is_there) in
    let size : 4 ≡ r.section.size = ap (λ (s : Section). s.size) there in (
      k.section,
      k.place,
      ⊎_elim
          (λ m. absurd (unmapped j end (omega (arith, r.has_bytes)) m))
          (λ e. e ∙ sym size)
          r.ends,
    )
  where
    unmapped : (j end : ℕ) → 0 < end → is_mapped plain j end ≡ true → ⊥
    unmapped j end low m =
        let apart : (0 == end) ≡ false = ne_eqb 0 end (λ e. omega arith) in
        elim (0 == j) as (λ b. ((b && (0 == end)) || false) ≡ true → ⊥) [
          | true ↦ λ h. both_ways (0 == end) apart (sym (or_false (0 == end)) ∙ h)
          | false ↦ λ h. both_ways false refl h
        ] m

-- the two nodes, and their instructions
pub start0 : IsCodeStart plain 0 (bytes_of plain 0) 0 4
start0 = record { start = 0; range = range; is_start = starts (omega arith) }

pub start2 : IsCodeStart plain 0 (bytes_of plain 0) 2 4
start2 = record { start = 0; range = range; is_start = goes 0 (starts (omega arith)) (omega arith) }

pub found0 : IsFound plain (node_at 0 0) (Ok movs)
unfolding half_rows
found0 = record { end = 4; start = start0; is = refl }

pub found2 : IsFound plain (node_at 0 2) (Ok bx_lr)
unfolding half_rows
found2 = record { end = 4; start = start2; is = refl }

pub only0 : (a : Answer) → IsFound plain (node_at 0 0) a → Ok movs ≡ a
unfolding half_rows
only0 a h = let e = end_is Code 0 h.start.start h.end h.start.range in subst (λ x. instr_at (bytes_of plain 0) x 0 0 ≡ a) e.2 h.is

pub only2 : (a : Answer) → IsFound plain (node_at 0 2) a → Ok bx_lr ≡ a
unfolding half_rows
only2 a h = let e = end_is Code 0 h.start.start h.end h.start.range in subst (λ x. instr_at (bytes_of plain 0) x 2 0 ≡ a) e.2 h.is

abbrev or_movs : Answer → Instr
or_movs (Ok i) = i
or_movs (Err b) = movs

-- a node with an instruction is one of them
pub data Which (n : _) (i : Instr) : Type 0 where
  is_first : (node_at 0 0) ≡ n → movs ≡ i → Which n i
  is_last : (node_at 0 2) ≡ n → bx_lr ≡ i → Which n i

pub which : (n : _) (i : Instr) → Contains (node_at 0 0 ∷ node_at 0 2 ∷ []) n → IsFound plain n (Ok i) → Which n i
which n i c f = ⊎_elim
    (λ (e : (node_at 0 0) ≡ n). is_first e (ap or_movs (only0 (Ok i) (subst (λ m. IsFound plain m (Ok i)) (sym e) f))))
    (λ (e : (node_at 0 2) ≡ n). is_last e (ap or_movs (only2 (Ok i) (subst (λ m. IsFound plain m (Ok i)) (sym e) f))))
    (either (node_at 0 0) (node_at 0 2) n c)

-- what the object names
abbrev home_of : Home → ℕ
home_of (homes.Section j) = j
home_of _ = 0

pub named_at : (j x section offset : ℕ) → IsNamed plain j x section offset → (j ≡ 0) × (x ≡ 0)
named_at j x section offset (by_symbol k s there home code entry xe se oe) = ⊎_elim
    (λ (h : (k ≡ 0) × (code_symbol ≡ s)). absurd (both_ways true (sym (ap is_entry h.1 ∙ entry)) refl))
    (λ (h : (k ≡ 1) × (function_symbol 4 ≡ s)). (sym (ap (λ (t : Symbol). home_of t.home) h.1 ∙ ap home_of home), xe ∙ ap (λ (t : Symbol). even t.value) (sym h.1)))
    (at_two code_symbol (function_symbol 4) s k there)
named_at j x section offset (by_address r s ref xe se oe) = absurd (none-some r ref.right.is_there)
named_at j x section offset (by_branch k r s right jump there home other xe se oe) = absurd (none-some r right.is_there)

pub names0 : IsNamed plain 0 0 0 0
names0 = by_symbol 1 (function_symbol 4) refl refl refl refl refl refl refl

pub goes_first : GoesOn plain (node_at 0 0) movs
goes_first = by_falling refl

pub goes_last : GoesOn plain (node_at 0 2) bx_lr → ⊥
goes_last (by_falling e) = both_ways true (sym e) refl
goes_last (by_return e d) = both_ways true (sym e) refl

pub no_offset : (n : _) (i : Instr) → Which n i → has_offset i ≡ true → ⊥
no_offset n i (is_first a b) e = both_ways true (sym (ap has_offset b ∙ e)) refl
no_offset n i (is_last a b) e = both_ways true (sym (ap has_offset b ∙ e)) refl

pub reached0 : IsReached plain (node_at 0 0)
reached0 = named 0 0 0 0 names0 (record { end = 4; start = start0 })

pub reached2 : IsReached plain (node_at 0 2)
reached2 = led_on (node_at 0 0) (node_at 0 2) reached0 (on movs found0 goes_first refl (record { end = 4; start = start2 }))

led : (n m : _) → Contains (node_at 0 0 ∷ node_at 0 2 ∷ []) n → LeadsOn plain n m → Contains (node_at 0 0 ∷ node_at 0 2 ∷ []) m
led n m c (on i f g e s) = to (which n i c f)
  where
    to : Which n i → Contains (node_at 0 0 ∷ node_at 0 2 ∷ []) m
    to (is_first a b) = (1, omega arith, sym (e ∙ (ap (λ q. node_behind plain q i) (sym a) ∙ ap (node_behind plain (node_at 0 0)) (sym b))))
    to (is_last a b) = absurd (goes_last (subst (GoesOn plain (node_at 0 2)) (sym b) (subst (λ q. GoesOn plain q i) (sym a) g)))

sent : (n m : _) → Contains (node_at 0 0 ∷ node_at 0 2 ∷ []) n → LeadsAway plain n m → Contains (node_at 0 0 ∷ node_at 0 2 ∷ []) m
sent n m c (away i x f aims e s) = absurd (no_offset n i (which n i c f) aims.has)

pub all_reached : (m : _) → IsReached plain m → Contains (node_at 0 0 ∷ node_at 0 2 ∷ []) m
all_reached _ (named j x section offset h s) = let e = named_at j x section offset h in (0, omega arith, sym (ap (λ k. node_at k x) e.0 ∙ ap (node_at 0) e.1))
all_reached m (led_on n _ h l) = led n m (all_reached n h) l
all_reached m (led_away n _ h l) = sent n m (all_reached n h) l

pub is_reached : (m : _) → Contains (node_at 0 0 ∷ node_at 0 2 ∷ []) m → IsReached plain m
is_reached m c = ⊎_elim (λ (e : (node_at 0 0) ≡ m). subst (IsReached plain) e reached0) (λ (e : (node_at 0 2) ≡ m). subst (IsReached plain) e reached2) (either (node_at 0 0) (node_at 0 2) m c)
