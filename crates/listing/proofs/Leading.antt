-- Each rule of the listing as what its lines lead to, and what follows of several of them.
use Rattle.std.proofs.Common.{◌≡◌, ◌<◌, ◌≤◌, ◌⊎◌, inl, inr, ℕ, ◌+◌, ◌-◌, ◌%◌, true, false, List, [], ◌∷◌, ◌++◌, length, refl, sym, ap, ◌∙◌, subst, arith, lit<, if◌then◌else◌, Ok, Err, append_assoc, append-nil}
use Rattle.std.proofs.lemmas.Bool.{cases_lt}
use Rattle.std.proofs.lemmas.List.Concat.{flat_map-append}
use Rattle.elf_model.specs.declared.ranges.RangeKind.TheVariants.{Code}
use Rattle.elf_model.specs.Fields.{half_at}
use Rattle.elf_model.specs.Objects.{ObjectParts}
use Rattle.elf_model.specs.Ranges.{IsRange, is_long, length_at, IsStart}
use Rattle.elf_model.specs.Ranges.IsStart.{first, next as later}
use Rattle.thumb_instr.specs.declared.instructions.Instr.{Instr}
use Rattle.thumb_instr.specs.declared.refusals.BadInstr.{BadInstr}
use Rattle.thumb_instr.specs.Blocks.{it_after}
use Rattle.thumb_text.specs.Listing.{line_of}
use Rattle.listing.specs.Listings.{byte_line, short_line, word_line, short_lines, decoded_at, it_behind, IsInCode, IsCodeStart, IsDataWord, Listed, text_of_lines}
use Rattle.listing.specs.Listings.Listed.{ended, instruction, refused, cut, cut_later, byte_left, word, byte}
use Rattle.listing.specs.ListingSteps.{LeadsTo, IsStep, IsGap}

pub text_append : (a b : List (List ℕ)) → text_of_lines (a ++ b) ≡ text_of_lines a ++ text_of_lines b
text_append a b = flat_map-append (λ line. line ++ 10 ∷ []) a b

pub leads_nowhere : (o : ObjectParts) (j : ℕ) (bytes : List ℕ) (x it : ℕ) (text : List ℕ) → LeadsTo o j bytes x it x it text text
leads_nowhere o j bytes x it text = record { lines = []; text_is = sym (append-nil text); listed = λ rest h. h }

pub leads_on : (o : ObjectParts) (j : ℕ) (bytes : List ℕ) (x it y next z last : ℕ) (old mid new : List ℕ)
    → LeadsTo o j bytes x it y next old mid → LeadsTo o j bytes y next z last mid new → LeadsTo o j bytes x it z last old new
leads_on o j bytes x it y next z last old mid new a b = record {
  lines = a.lines ++ b.lines;
  text_is = b.text_is ∙ ap (λ t. t ++ text_of_lines b.lines) a.text_is ∙ append_assoc old (text_of_lines a.lines) (text_of_lines b.lines)
      ∙ ap (λ t. old ++ t) (sym (text_append a.lines b.lines));
  listed = λ rest h. rw append_assoc (a.listed (b.lines ++ rest) (b.listed rest h));
}

-- a whole instruction
pub leads_instruction : (o : ObjectParts) (j : ℕ) (bytes : List ℕ) (x it end : ℕ) (i : Instr) (old new : List ℕ) → decoded_at bytes x it ≡ Ok i → new ≡ old ++ text_of_lines (line_of i x ∷ [])
    → IsCodeStart o j bytes x end → x + length_at bytes x ≤ end → LeadsTo o j bytes x it (x + length_at bytes x) (it_behind i it) old new
leads_instruction o j bytes x it end i old new d t c l = record { lines = line_of i x ∷ []; text_is = t; listed = λ rest h. instruction x it end i rest c l d h }

pub leads_refused : (o : ObjectParts) (j : ℕ) (bytes : List ℕ) (x it end : ℕ) (bad : BadInstr) (old new : List ℕ) → decoded_at bytes x it ≡ Err bad → new ≡ old ++ text_of_lines (short_lines bytes x)
    → IsCodeStart o j bytes x end → x + length_at bytes x ≤ end → LeadsTo o j bytes x it (x + length_at bytes x) (it_after it) old new
leads_refused o j bytes x it end bad old new d t c l = record { lines = short_lines bytes x; text_is = t; listed = λ rest h. refused x it end bad rest c l d h }

-- an instruction that is cut
pub leads_cut : (o : ObjectParts) (j : ℕ) (bytes : List ℕ) (x it end : ℕ) (old new : List ℕ) → x + 2 ≡ end → new ≡ old ++ text_of_lines (short_line bytes x ∷ [])
    → IsCodeStart o j bytes x end → is_long (half_at bytes x) ≡ true → LeadsTo o j bytes x it end (it_after it) old new
leads_cut o j bytes x it end old new e t c l = record { lines = short_line bytes x ∷ []; text_is = t; listed = λ rest h. cut x it end rest c l e h }

pub leads_cut_later : (o : ObjectParts) (j : ℕ) (bytes : List ℕ) (x it end : ℕ) (old mid new : List ℕ) → x + 3 ≡ end → mid ≡ old ++ text_of_lines (short_line bytes x ∷ [])
    → new ≡ mid ++ text_of_lines (byte_line bytes (x + 2) ∷ []) → IsCodeStart o j bytes x end → is_long (half_at bytes x) ≡ true → LeadsTo o j bytes x it end (it_after it) old new
leads_cut_later o j bytes x it end old mid new e s t c l = record {
  lines = short_line bytes x ∷ byte_line bytes (x + 2) ∷ [];
  text_is = t ∙ ap (λ u. u ++ text_of_lines (byte_line bytes (x + 2) ∷ [])) s ∙ append_assoc old (text_of_lines (short_line bytes x ∷ [])) (text_of_lines (byte_line bytes (x + 2) ∷ []))
      ∙ ap (λ u. old ++ u) (sym (text_append (short_line bytes x ∷ []) (byte_line bytes (x + 2) ∷ [])));
  listed = λ rest h. cut_later x it end rest c l e h;
}

-- a byte left
pub leads_byte_left : (o : ObjectParts) (j : ℕ) (bytes : List ℕ) (x it end : ℕ) (old new : List ℕ) → x + 1 ≡ end → new ≡ old ++ text_of_lines (byte_line bytes x ∷ [])
    → IsCodeStart o j bytes x end → LeadsTo o j bytes x it end it old new
leads_byte_left o j bytes x it end old new e t c = record { lines = byte_line bytes x ∷ []; text_is = t; listed = λ rest h. byte_left x it end rest c e h }

-- steps through a code range
pub step_left : (bytes : List ℕ) (end x it : ℕ) (old new : List ℕ) → x + 1 ≡ end → new ≡ old ++ text_of_lines (byte_line bytes x ∷ []) → IsStep bytes end x it end it old new
step_left bytes end x it old new e t = record {
  further = omega arith;
  within = omega arith;
  leads = λ o j start r s. leads_byte_left o j bytes x it end old new e t (record { start = start; range = r; is_start = s });
  stands = λ start s. inl refl;
}

pub step_cut : (bytes : List ℕ) (end x it after : ℕ) (old new : List ℕ) → x < end
    → ((o : ObjectParts) (j : ℕ) → IsCodeStart o j bytes x end → LeadsTo o j bytes x it end after old new) → IsStep bytes end x it end after old new
step_cut bytes end x it after old new l f = record {
  further = l;
  within = omega arith;
  leads = λ o j start r s. f o j (record { start = start; range = r; is_start = s });
  stands = λ start s. inl refl;
}

length_is_some : (bytes : List ℕ) (x : ℕ) → 0 < length_at bytes x
length_is_some bytes x = elim (is_long (half_at bytes x)) as (λ b. 0 < (if b then 4 else 2)) [ true ↦ lit< tt | false ↦ lit< tt ]

next_stands : (bytes : List ℕ) (start end x : ℕ) → IsStart bytes start end x → x + length_at bytes x ≤ end → (x + length_at bytes x ≡ end) ⊎ IsStart bytes start end (x + length_at bytes x)
next_stands bytes start end x s l =
    elim (cases_lt (x + length_at bytes x) end) [
      | inl under ↦ inr (later x s under)
      | inr over ↦ inl (omega arith)
    ]

pub step_whole : (bytes : List ℕ) (end x it after : ℕ) (old new : List ℕ) → x + length_at bytes x ≤ end
    → ((o : ObjectParts) (j last : ℕ) → IsCodeStart o j bytes x last → x + length_at bytes x ≤ last → LeadsTo o j bytes x it (x + length_at bytes x) after old new)
    → IsStep bytes end x it (x + length_at bytes x) after old new
step_whole bytes end x it after old new l f = record {
  further = let some : 0 < length_at bytes x = length_is_some bytes x in omega arith;
  within = l;
  leads = λ o j start r s. f o j end (record { start = start; range = r; is_start = s }) l;
  stands = λ start s. next_stands bytes start end x s l;
}

-- how far a code range is listed
pub record IsUpTo (bytes : List ℕ) (start end it x next : ℕ) (old new : List ℕ) : Type 0 where
  pub within : x ≤ end
  pub leads : (o : ObjectParts) (j : ℕ) → IsRange o Code j start end → LeadsTo o j bytes start it x next old new
  pub stands : (x ≡ end) ⊎ IsStart bytes start end x

pub up_to_start : (bytes : List ℕ) (start end it : ℕ) (text : List ℕ) → start < end → IsUpTo bytes start end it start it text text
up_to_start bytes start end it text l = record { within = omega arith; leads = λ o j r. leads_nowhere o j bytes start it text; stands = inr (first l) }

start_of : (bytes : List ℕ) (start end x : ℕ) → x < end → (x ≡ end) ⊎ IsStart bytes start end x → IsStart bytes start end x
start_of bytes start end x l (inl e) = absurd (omega arith)
start_of bytes start end x l (inr s) = s

pub up_to_next : (bytes : List ℕ) (start end it x next y after : ℕ) (old mid new : List ℕ) → x < end → IsUpTo bytes start end it x next old mid → IsStep bytes end x next y after mid new → IsUpTo bytes start end it y after old new
up_to_next bytes start end it x next y after old mid new l u s = record {
  within = s.within;
  leads = λ o j r. leads_on o j bytes start it x next y after old mid new (u.leads o j r) (s.leads o j start r (start_of bytes start end x l u.stands));
  stands = s.stands start (start_of bytes start end x l u.stands);
}

pub up_to_end : (bytes : List ℕ) (start end it x next : ℕ) (old new : List ℕ) → end ≤ x → IsUpTo bytes start end it x next old new
    → (o : ObjectParts) (j : ℕ) → IsRange o Code j start end → LeadsTo o j bytes start it end next old new
up_to_end bytes start end it x next old new l u o j r =
    let here : x ≡ end = let w = u.within in omega arith in
    subst (λ (z : ℕ). LeadsTo o j bytes start it z next old new) here (u.leads o j r)

-- lines of data
leads_word : (o : ObjectParts) (j : ℕ) (bytes : List ℕ) (x : ℕ) (old new : List ℕ) → IsDataWord o j bytes x → new ≡ old ++ text_of_lines (word_line bytes x ∷ []) → LeadsTo o j bytes x 0 (x + 4) 0 old new
leads_word o j bytes x old new d t = record { lines = word_line bytes x ∷ []; text_is = t; listed = λ rest h. word x 0 rest d h }

leads_byte : (o : ObjectParts) (j : ℕ) (bytes : List ℕ) (x : ℕ) (old new : List ℕ) → x < length bytes → ¬ IsInCode o j x → ¬ IsDataWord o j bytes x → new ≡ old ++ text_of_lines (byte_line bytes x ∷ [])
    → LeadsTo o j bytes x 0 (x + 1) 0 old new
leads_byte o j bytes x old new l n d t = record { lines = byte_line bytes x ∷ []; text_is = t; listed = λ rest h. byte x 0 rest l n d h }

-- how far bytes that are not code are listed
pub record IsOver (bytes : List ℕ) (start end x : ℕ) (old new : List ℕ) : Type 0 where
  pub behind : start ≤ x
  pub within : x ≤ end
  pub leads : (o : ObjectParts) (j : ℕ) → IsGap o j bytes start end → LeadsTo o j bytes start 0 x 0 old new

pub over_nothing : (bytes : List ℕ) (start end : ℕ) (text : List ℕ) → start ≤ end → IsOver bytes start end start text text
over_nothing bytes start end text l = record { behind = omega arith; within = l; leads = λ o j g. leads_nowhere o j bytes start 0 text }

pub over_word : (bytes : List ℕ) (start end x : ℕ) (old mid new : List ℕ) → x % 4 ≡ 0 → x + 4 ≤ end → end ≤ length bytes → IsOver bytes start end x old mid → new ≡ mid ++ text_of_lines (word_line bytes x ∷ [])
    → IsOver bytes start end (x + 4) old new
over_word bytes start end x old mid new a l u h t = record {
  behind = let b = h.behind in omega arith;
  within = l;
  leads = λ o j g. leads_on o j bytes start 0 x 0 (x + 4) 0 old mid new (h.leads o j g) (leads_word o j bytes x mid new (is_word o j g) t);
}
  where
    is_word : (o : ObjectParts) (j : ℕ) → IsGap o j bytes start end → IsDataWord o j bytes x
    is_word o j g = record { aligned = a; inside = omega arith; no_code = λ k s. let b = h.behind in g.clear (x + k) (omega arith) (omega arith) }

not_word : (o : ObjectParts) (j : ℕ) (bytes : List ℕ) (x end : ℕ) → (x % 4 ≡ 0 → end < x + 4) → x ≤ end → (end ≡ length bytes) ⊎ IsInCode o j end → ¬ IsDataWord o j bytes x
not_word o j bytes x end s l (inl e) d = let near = s d.aligned in let i = d.inside in omega arith
not_word o j bytes x end s l (inr c) d =
    let near = s d.aligned in
    let same : end ≡ x + (end - x) = omega arith in
    d.no_code (end - x) (omega arith) (subst (λ (z : ℕ). IsInCode o j z) same c)

pub over_byte : (bytes : List ℕ) (start end x : ℕ) (old mid new : List ℕ) → (x % 4 ≡ 0 → end < x + 4) → x < end → end ≤ length bytes → IsOver bytes start end x old mid → new ≡ mid ++ text_of_lines (byte_line bytes x ∷ [])
    → IsOver bytes start end (x + 1) old new
over_byte bytes start end x old mid new s l u h t = record {
  behind = let b = h.behind in omega arith;
  within = omega arith;
  leads = λ o j g.
      leads_on o j bytes start 0 x 0 (x + 1) 0 old mid new (h.leads o j g)
      (leads_byte o j bytes x mid new (omega arith) (g.clear x h.behind l) (not_word o j bytes x end s (omega arith) g.ends) t);
}

start_inside : (bytes : List ℕ) (start end x : ℕ) → IsStart bytes start end x → (start ≤ x) × (x < end)
start_inside bytes start end x (first l) = (omega arith, l)
start_inside bytes start end _ (later x s l) = let i = start_inside bytes start end x s in let b = i.0 in (omega arith, l)

pub start_in_code : (o : ObjectParts) (j : ℕ) (bytes : List ℕ) (x end : ℕ) → IsCodeStart o j bytes x end → IsInCode o j x
start_in_code o j bytes x end c =
    let i = start_inside bytes c.start end x c.is_start in
    record { start = c.start; end = end; range = c.range; not_before = i.0; not_behind = i.1 }

-- The IT state does not count where data stands.
in_any_state : (o : ObjectParts) (j : ℕ) (bytes : List ℕ) (x it after : ℕ) (lines : List (List ℕ)) → Listed o j bytes x it lines → x < length bytes → ¬ IsInCode o j x → Listed o j bytes x after lines
in_any_state o j bytes _ _ after _ (ended it) l n = absurd (omega arith)
in_any_state o j bytes _ _ after _ (instruction x it end i rest c w d h) l n = absurd (n (start_in_code o j bytes x end c))
in_any_state o j bytes _ _ after _ (refused x it end bad rest c w d h) l n = absurd (n (start_in_code o j bytes x end c))
in_any_state o j bytes _ _ after _ (cut x it end rest c w e h) l n = absurd (n (start_in_code o j bytes x end c))
in_any_state o j bytes _ _ after _ (cut_later x it end rest c w e h) l n = absurd (n (start_in_code o j bytes x end c))
in_any_state o j bytes _ _ after _ (byte_left x it end rest c e h) l n = absurd (n (start_in_code o j bytes x end c))
in_any_state o j bytes _ _ after _ (word x it rest d h) l n = word x after rest d h
in_any_state o j bytes _ _ after _ (byte x it rest b c d h) l n = byte x after rest b c d h

pub leads_across : (o : ObjectParts) (j : ℕ) (bytes : List ℕ) (x it y : ℕ) (old new : List ℕ) → x < y → y ≤ length bytes → IsGap o j bytes x y → LeadsTo o j bytes x 0 y 0 old new → LeadsTo o j bytes x it y 0 old new
leads_across o j bytes x it y old new l u g a = record {
  lines = a.lines;
  text_is = a.text_is;
  listed = λ rest h. in_any_state o j bytes x 0 it (a.lines ++ rest) (a.listed rest h) (omega arith) (g.clear x (omega arith) l);
}
