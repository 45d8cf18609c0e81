-- The symbols and the one range of the generated object.
use Rattle.std.proofs.Common.{◌≡◌, ℕ, zero, suc, ◌+◌, ◌*◌, ◌%◌, ◌<◌, ◌≤◌, ◌==◌, ◌&&◌, Bool, true, false, List, length, refl, sym, ap, ◌∙◌, subst, inl, inr, ◌⊎◌, arith, Some, map}
use Rattle.std.specs.Prelude.{slice_get, ◌||◌}
use Rattle.std.specs.List.{list_any, range_with_len}
use Rattle.std.proofs.lemmas.Bool.{and_parts, eqb-true, true≢false}
use Rattle.std.proofs.lemmas.Bool.Decides.{nat_tests}
use Rattle.std.proofs.lemmas.Option.{none-some, same_Some}
use Rattle.elf_model.specs.declared.objects.Section.{Section}
use Rattle.elf_model.specs.declared.objects.Symbol.{Symbol}
use Rattle.elf_model.specs.declared.ranges.RangeKind.{RangeKind}
use Rattle.elf_model.specs.declared.ranges.RangeKind.TheVariants.{Code, Arm, Data}
use Rattle.elf_model.specs.declared.refusals.Refusal.{Refusal}
use Rattle.elf_model.specs.Ranges.{is_mapping_of, is_mapping, mapping_name, stands_at, is_mapped, IsRange, IsStart}
use Rattle.code_ranges.specs.CodeRanges.{RangeFault}
use Rattle.code_ranges.specs.CodeRanges.RangeFault.{no_mapping, arm_range, arm_function}
use Rattle.thumb_instr.specs.declared.instructions.Instr.{Instr}
use Rattle.reloc_places.specs.Starts.{bytes_of, IsCodeStart, HasStart}
use Rattle.gen_object.specs.Generated.{code_bytes, text_section, code_symbol, function_symbol, generated}
use Rattle.gen_flow.specs.GeneratedCode.{StandsAt}
use Rattle.gen_flow.proofs.MadeLists.{made_at, made_none}
use Rattle.gen_flow.proofs.CodeLengths.{code_length}
use Rattle.gen_flow.proofs.CodeStarts.{start_stands, stands_start}

or_none : (a b : Bool) → b ≡ false → (a || b) ≡ a
or_none true b e = refl
or_none false b e = e

-- the first symbol, or that of a function
pub data IsSymbolOf (count k : ℕ) (s : Symbol) : Type 0 where
  of_code : k ≡ 0 → s ≡ code_symbol → IsSymbolOf count k s
  of_function : (m : ℕ) → k ≡ suc m → m < count → s ≡ function_symbol count m → IsSymbolOf count k s

pub symbol_is : (seed count k : ℕ) (s : Symbol) → slice_get (generated seed count).symbols k ≡ Some s → IsSymbolOf count k s
symbol_is seed count zero s e = of_code refl (sym (same_Some code_symbol s e))
symbol_is seed count (suc m) s e = let found = made_at (function_symbol count) count m s e in of_function m refl found.0 found.1

-- No function is a mapping symbol.
no_mark : (name : List ℕ) (count m : ℕ) (s : Symbol) → s ≡ function_symbol count m → is_mapping_of name s ≡ false
no_mark name count m s e = ap (is_mapping_of name) e

no_mapping_symbol : (count m : ℕ) (s : Symbol) → s ≡ function_symbol count m → is_mapping s ≡ false
no_mapping_symbol count m s e = ap is_mapping e

pub the_section : (seed count j : ℕ) (s : Section) → slice_get (generated seed count).sections j ≡ Some s → (j ≡ 0) × (s ≡ text_section (code_bytes seed count))
the_section seed count zero s e = (refl, sym (same_Some (text_section (code_bytes seed count)) s e))
the_section seed count (suc j) s e = absurd (none-some s e)

pub mapped_is : (seed count j x : ℕ) → is_mapped (generated seed count) j x ≡ ((0 == j) && (0 == x))
mapped_is seed count j x =
    or_none ((0 == j) && (0 == x)) (list_any (λ (s : Symbol). is_mapping s && stands_at j x s.home s.value) (map (function_symbol count) (range_with_len 0 count)))
    (made_none (function_symbol count) (λ (s : Symbol). is_mapping s && stands_at j x s.home s.value) (λ k. refl) 0 count)

module _ (seed count : ℕ) (some : 1 ≤ count) where
  -- the one range, of all code
  pub code_range : IsRange (generated seed count) Code 0 0 (length (code_bytes seed count))
  code_range =
      let long = code_length seed count some in
      record {
        section = text_section (code_bytes seed count);
        is_there = refl;
        in_code = refl;
        begins = record { index = 0; symbol = code_symbol; is_there = refl; is_kind = refl; stands = refl; last = λ k other later there marks. absurd (later_marks k other later there marks) };
        has_bytes = omega arith;
        inside = omega arith;
        ends = inr refl;
        nearest = λ x low high. mapped_is seed count 0 x ∙ not_at x low;
      }
    where
      later_marks : (k : ℕ) (other : Symbol) → 0 < k → slice_get (generated seed count).symbols k ≡ Some other → is_mapping other ≡ true → ⊥
      later_marks k other later there marks =
          elim (symbol_is seed count k other there) [
            | of_code e same ↦ absurd (omega arith)
            | of_function m e few same ↦ true≢false (sym marks ∙ no_mapping_symbol count m other same)
          ]

      not_at : (x : ℕ) → 0 < x → ((0 == 0) && (0 == x)) ≡ false
      not_at x low = grind (arith, nat_tests)

  pub record IsTheRange (kind : RangeKind) (j start end : ℕ) : Type 0 where
    pub code : kind ≡ Code
    pub section : j ≡ 0
    pub from : start ≡ 0
    pub to : end ≡ length (code_bytes seed count)

  code_kind : (kind : RangeKind) (s : Symbol) → s ≡ code_symbol → is_mapping_of (mapping_name kind) s ≡ true → kind ≡ Code
  code_kind Code s e h = refl
  code_kind Arm s e h = absurd (true≢false (sym h ∙ ap (is_mapping_of (mapping_name Arm)) e))
  code_kind Data s e h = absurd (true≢false (sym h ∙ ap (is_mapping_of (mapping_name Data)) e))

  pub range_is : (kind : RangeKind) (j start end : ℕ) → IsRange (generated seed count) kind j start end → IsTheRange kind j start end
  range_is kind j start end r =
      elim (symbol_is seed count r.begins.index r.begins.symbol r.begins.is_there) [
        | of_code e same ↦ with_code r.begins.symbol same r.begins.is_kind r.begins.stands
        | of_function m e few same ↦ absurd (true≢false (sym r.begins.is_kind ∙ no_mark (mapping_name kind) count m r.begins.symbol same))
      ]
    where
      place : (s : Symbol) → s ≡ code_symbol → stands_at j start s.home s.value ≡ true → ((0 == j) && (0 == start)) ≡ true
      place s same stands = sym (ap (λ (q : Symbol). stands_at j start q.home q.value) same) ∙ stands

      ended : start ≡ 0 → (is_mapped (generated seed count) j end ≡ true) ⊎ (end ≡ r.section.size) → end ≡ r.section.size
      ended from (inl m) =
          let zero_end = eqb-true 0 end (and_parts (0 == j) (0 == end) (sym (mapped_is seed count j end) ∙ m)).1 in
          let bytes = r.has_bytes in
          absurd (omega arith)
      ended from (inr e) = e

      with_code : (s : Symbol) → s ≡ code_symbol → is_mapping_of (mapping_name kind) s ≡ true → stands_at j start s.home s.value ≡ true → IsTheRange kind j start end
      with_code s same mark stands =
          let both = and_parts (0 == j) (0 == start) (place s same stands) in
          let from : start ≡ 0 = sym (eqb-true 0 start both.1) in
          record {
            code = code_kind kind s same mark;
            section = sym (eqb-true 0 j both.0);
            from = from;
            to = ended from r.ends ∙ ap (λ (q : Section). q.size) (the_section seed count j r.section r.is_there).1;
          }

  -- Its instruction starts are those of its code.
  pub code_start : (j : ℕ) (bytes : List ℕ) (x end : ℕ) → bytes ≡ bytes_of (generated seed count) j → IsCodeStart (generated seed count) j bytes x end
      → (j ≡ 0) × (end ≡ length (code_bytes seed count)) × ((i : Instr) × StandsAt seed count x i)
  code_start j bytes x end same s =
      let r = range_is Code j s.start end s.range in
      let code : bytes ≡ code_bytes seed count = same ∙ ap (bytes_of (generated seed count)) r.section in
      let here : IsStart (code_bytes seed count) 0 (length (code_bytes seed count)) x =
      subst (λ (b : List ℕ). IsStart b 0 (length (code_bytes seed count)) x) code
      (subst (λ (e : ℕ). IsStart bytes 0 e x) r.to (subst (λ (a : ℕ). IsStart bytes a end x) r.from s.is_start)) in
      (r.section, r.to, start_stands seed count some x here)

  pub has_start : (j x : ℕ) → HasStart (generated seed count) j x → (j ≡ 0) × ((i : Instr) × StandsAt seed count x i)
  has_start j x h = let found = code_start j (bytes_of (generated seed count) j) x h.end refl h.start in (found.0, found.2)

  pub stands_code_start : (x : ℕ) (i : Instr) → StandsAt seed count x i → IsCodeStart (generated seed count) 0 (code_bytes seed count) x (length (code_bytes seed count))
  stands_code_start x i h = record { start = 0; range = code_range; is_start = stands_start seed count some x i h }

  pub stands_has_start : (j x : ℕ) (i : Instr) → j ≡ 0 → StandsAt seed count x i → HasStart (generated seed count) j x
  stands_has_start j x i e h = subst (λ (k : ℕ). HasStart (generated seed count) k x) (sym e) (record { end = length (code_bytes seed count); start = stands_code_start x i h })

  -- no fault of its ranges
  odd_value : (m : ℕ) → (14 * m + 1) % 2 ≡ 0 → ⊥
  odd_value m e = omega arith

  pub no_range_fault : (r : Refusal) (section offset : ℕ) → RangeFault (generated seed count) r section offset → ⊥
  no_range_fault _ _ _ (no_mapping j s at code bytes none) =
      let here = (the_section seed count j s at).0 in
      true≢false (sym (mapped_is seed count 0 0) ∙ ap (λ (k : ℕ). is_mapped (generated seed count) k 0) (sym here) ∙ none)
  no_range_fault _ _ _ (arm_range j start end r) = absurd (cc (range_is Arm j start end r).code)
  no_range_fault _ _ _ (arm_function k j f s at kind is value there code) =
      elim (symbol_is seed count k f at) [
        | of_code e same ↦ absurd (cc (sym kind ∙ ap (λ (q : Symbol). q.kind) same))
        | of_function m e few same ↦ odd_value m (ap (λ (q : Symbol). q.value % 2) (sym same) ∙ value)
      ]
