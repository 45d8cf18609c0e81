-- A branch or call leads to one place, and by a right relocation where its symbol says.
use Rattle.std.proofs.Common.{◌≡◌, ◌↔◌, ◌⊎◌, inl, inr, ◌<◌, ℕ, true, false, refl, sym, ap, ◌∙◌, subst, Option, Some, List, length, get_or}
use Rattle.std.specs.Prelude.{slice_get, nat_lt, ◌&&◌}
use Rattle.std.specs.Option.{option_map}
use Rattle.std.proofs.lemmas.Bool.{and_parts, ltb-true, true≢false}
use Rattle.std.proofs.lemmas.Option.{none-some, same_Some, get_or_from_slice_get}
use Rattle.elf_model.specs.declared.objects.Reloc.{Reloc}
use Rattle.elf_model.specs.declared.objects.Symbol.{Symbol}
use Rattle.elf_model.specs.Objects.{ObjectParts, is_object, is_placed, is_kind}
use Rattle.thumb_instr.specs.declared.instructions.Instr.{Instr}
use Rattle.flow_recover.specs.declared.aims.Aim.{Aim}
use Rattle.flow_recover.specs.declared.aims.Aim.TheVariants.{Near, Shared, Fixed, Far}
use Rattle.reloc_places.specs.declared.relocations.Placed.{Placed}
use Rattle.reloc_places.specs.Relocations.{IsRight, reloc_at, target_of}
use Rattle.flow_recover.specs.Aims.{aim_at, IsAim}
use Rattle.flow_recover.specs.Aims.IsAim.{by_offset, by_symbol, not_right}
use Rattle.reloc_places.specs.Tables.{AreRelocs, index_of}
use Rattle.flow_recover.specs.Walks.{offset_in}
use Rattle.code_ranges.proofs.ObjectFacts.{reloc_sound}
pub use Rattle.elf_model.proofs.Elements.{element_at}

module _ (o : ObjectParts) where
  pub aim_once : (j x : ℕ) (i : Instr) (a b : Aim) → IsAim o j x i a → IsAim o j x i b → a ≡ b
  aim_once j x i a b (by_offset n e) (by_offset m f) = e ∙ sym f
  aim_once j x i a b (by_offset n e) (by_symbol k r s at right there f) = absurd (none-some k (sym n ∙ at))
  aim_once j x i a b (by_offset n e) (not_right k at none f) = absurd (none-some k (sym n ∙ at))
  aim_once j x i a b (by_symbol k r s at right there e) (by_offset n f) = absurd (none-some k (sym n ∙ at))
  aim_once j x i a b (by_symbol k r s at right there e) (by_symbol l q t at2 right2 there2 f) =
      let same_index : k ≡ l = same_Some k l (sym at ∙ at2) in
      let same_reloc : r ≡ q = same_Some r q (sym right.is_there ∙ ap (λ (n : ℕ). slice_get o.relocs n) same_index ∙ right2.is_there) in
      let same_symbol : s ≡ t = same_Some s t (sym there ∙ ap (λ (z : Reloc). slice_get o.symbols z.symbol) same_reloc ∙ there2) in
      e ∙ ap (λ (z : Reloc). aim_at j s s.home (target_of o z s)) same_reloc ∙ ap (λ (z : Symbol). aim_at j z z.home (target_of o q z)) same_symbol ∙ sym f
  aim_once j x i a b (by_symbol k r s at right there e) (not_right l at2 none f) = absurd (none r (subst (λ (n : ℕ). IsRight o n r) (same_Some k l (sym at ∙ at2)) right))
  aim_once j x i a b (not_right k at none e) (by_offset n f) = absurd (none-some k (sym n ∙ at))
  aim_once j x i a b (not_right k at none e) (by_symbol l q t at2 right there f) = absurd (none q (subst (λ (n : ℕ). IsRight o n q) (same_Some l k (sym at2 ∙ at)) right))
  aim_once j x i a b (not_right k at none e) (not_right l at2 none2 f) = e ∙ sym f

  -- the offset to which an aim leads
  pub leads_to : (j x y : ℕ) (i : Instr) (a : Aim) → IsAim o j x i a → offset_in a ≡ Some y → IsAim o j x i (Near y) ⊎ IsAim o j x i (Shared y)
  leads_to j x y i (Near z) h e = inl (subst (λ (k : ℕ). IsAim o j x i (Near k)) (same_Some z y e) h)
  leads_to j x y i (Shared z) h e = inr (subst (λ (k : ℕ). IsAim o j x i (Shared k)) (same_Some z y e) h)
  leads_to j x y i Fixed h e = absurd (none-some y e)
  leads_to j x y i Far h e = absurd (none-some y e)

  pub led_to : (j x y : ℕ) (i : Instr) (a : Aim) → IsAim o j x i a → IsAim o j x i (Near y) ⊎ IsAim o j x i (Shared y) → offset_in a ≡ Some y
  led_to j x y i a here (inl h) = ap offset_in (aim_once j x i a (Near y) here h)
  led_to j x y i a here (inr h) = ap offset_in (aim_once j x i a (Shared y) here h)

  -- an aim is the only one
  pub aim_is : (j x : ℕ) (i : Instr) (a aim : Aim) → IsAim o j x i a → (a ≡ aim) ↔ IsAim o j x i aim
  aim_is j x i a aim h = (λ e. subst (λ (z : Aim). IsAim o j x i z) e h, λ g. aim_once j x i a aim h g)

  pub symbol_below : (k : ℕ) (r : Reloc) → is_object o ≡ true → IsRight o k r → r.symbol < length o.symbols
  symbol_below k r sound right = ltb-true r.symbol (length o.symbols) (and_parts (is_placed r (slice_get o.sections r.section) && is_kind r.kind) (nat_lt r.symbol (length o.symbols)) (reloc_sound o k r sound right.is_there)).1

  -- the relocation that an index reads, and the symbol that it reads
  pub read_reloc : (k : ℕ) (relocs : List Reloc) (d : Reloc) (right : (r : Reloc) × IsRight o k r) → relocs ≡ o.relocs → right.0 ≡ get_or relocs k d
  read_reloc k relocs d right e = sym (ap (λ (l : List Reloc). get_or l k d) e ∙ get_or_from_slice_get o.relocs k right.0 d right.1.is_there)

  pub read_symbol : (symbols : List Symbol) (q r : Reloc) (s t : Symbol) → symbols ≡ o.symbols → q ≡ r → t ≡ get_or symbols q.symbol t → slice_get o.symbols r.symbol ≡ Some s → t ≡ s
  read_symbol symbols q r s t e f g there =
      g ∙ ap (λ (l : List Symbol). get_or l q.symbol t) e ∙ ap (λ (z : Reloc). get_or o.symbols z.symbol t) f ∙ get_or_from_slice_get o.symbols r.symbol s t there

  pub read_aim : (j target : ℕ) (a : Aim) (q r : Reloc) (s t : Symbol) → a ≡ aim_at j t t.home target → target ≡ target_of o q t → q ≡ r → t ≡ s → a ≡ aim_at j s s.home (target_of o r s)
  read_aim j target a q r s t e f g h =
      e ∙ ap (λ (n : ℕ). aim_at j t t.home n) f ∙ ap (λ (z : Reloc). aim_at j t t.home (target_of o z t)) g ∙ ap (λ (z : Symbol). aim_at j z z.home (target_of o r z)) h

  module _ (placed_at : ℕ → ℕ → Option Placed) (relocs : AreRelocs o placed_at) (j x : ℕ) (p : Placed) (here : Some p ≡ placed_at j x) where
    -- the index of the relocation at a place
    pub placed_index : reloc_at o j x ≡ Some p.index
    placed_index = sym (relocs.index j x) ∙ ap (option_map index_of) (sym here)

    pub placed_right : p.right ≡ true → (r : Reloc) × IsRight o p.index r
    placed_right e = (relocs.right j x p (sym here)).0 e

    pub aim_by_symbol : is_object o ≡ true → (i : Instr) (a : Aim) → p.right ≡ true
        → ((r : Reloc) (s : Symbol) → slice_get o.relocs p.index ≡ Some r → slice_get o.symbols r.symbol ≡ Some s → a ≡ aim_at j s s.home (target_of o r s))
        → (aim : Aim) → (a ≡ aim) ↔ IsAim o j x i aim
    aim_by_symbol sound i a e says aim =
        let right = placed_right e in
        let symbol = element_at o.symbols right.0.symbol (symbol_below p.index right.0 sound right.1) in
        aim_is j x i a aim (by_symbol p.index right.0 symbol.0 placed_index right.1 symbol.1 (says right.0 symbol.0 right.1.is_there symbol.1))

    pub aim_far : (i : Instr) → p.right ≡ false → (aim : Aim) → (Far ≡ aim) ↔ IsAim o j x i aim
    aim_far i e aim = aim_is j x i Far aim (not_right p.index placed_index (λ r h. absurd (true≢false (sym ((relocs.right j x p (sym here)).1 (r, h)) ∙ e))) refl)
