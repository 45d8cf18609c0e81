-- What stands at a place depends on its own bytes alone, and is what was put there.
use Rattle.std.proofs.Common.{◌≡◌, ◌≤◌, ◌<◌, ℕ, ◌+◌, ◌-◌, ◌*◌, ◌^◌, Bool, true, false, cond, List, length, take, drop, get_or, refl, sym, ap, ◌∙◌, subst, arith, Some, None, Ok, Err}
use Rattle.std.specs.Prelude.{if◌then◌else◌}
use Rattle.std.proofs.lemmas.Bool.{true≢false, leb-true}
use Rattle.std.proofs.lemmas.List.{get_or-drop, get_or-take}
use Rattle.elf_model.specs.declared.objects.RelocKind.{RelocKind}
use Rattle.elf_model.specs.declared.objects.RelocKind.TheVariants.{Abs32, Target1, ThmCall, ThmJump24, MovwAbs, MovtAbs, ThmJump19, ThmJump11, ThmJump8, Other}
use Rattle.elf_model.specs.Fields.{half, word, half_at}
use Rattle.elf_model.specs.Objects.{ObjectParts, place_width}
use Rattle.elf_model.specs.Ranges.{is_long, is_whole, length_at}
use Rattle.thumb_instr.specs.declared.instructions.Instr.{Instr}
use Rattle.thumb_instr.specs.declared.refusals.BadInstr.TheVariants.{Unknown}
use Rattle.thumb_instr.specs.declared.refusals.ItPlace.TheVariants.{Outside}
use Rattle.thumb_instr.specs.Rows.{decode, decode_given}
use Rattle.thumb_encode.specs.declared.codes.Code.{Code}
use Rattle.thumb_encode.specs.declared.codes.Code.TheVariants as code
use Rattle.thumb_encode.specs.Encoding.{StandsFor, width_of}
use Rattle.reloc_places.specs.Starts.{bytes_of, decoded_at, instr_at}
use Rattle.reloc_places.specs.Relocations.{is_word, fits_kind, IsPlace}
use Rattle.reloc_places.specs.Relocations.IsPlace.{in_data, in_code, on_instr}
use Rattle.reloc_places.proofs.DecodedPlaces.{long_alone}
use Rattle.thumb_table.specs.declared.placements.Placement.{Placement}
use Rattle.thumb_table.specs.Layouts.{Placed}
use Rattle.thumb_table.specs.Links.{Link, Renumbers, IsWritten, place_of, value_of, full}
use Rattle.flat_link.specs.Ties.{IsTied}
use Rattle.flat_link.specs.Patches.{code_bytes, width_if, IsPlaceCode}
use Rattle.flat_link.proofs.TieFacts.{own_bytes}

-- an element of what stands at an offset
taken : (a b : List ℕ) (x m k : ℕ) → k < m → take m (drop x a) ≡ take m (drop x b) → get_or (drop x a) k 0 ≡ get_or (drop x b) k 0
taken a b x m k less same = sym (get_or-take m (drop x a) k 0 less) ∙ ap (λ (l : List ℕ). get_or l k 0) same ∙ get_or-take m (drop x b) k 0 less

further : (a : List ℕ) (x k : ℕ) → get_or (drop (x + 2) a) k 0 ≡ get_or (drop x a) (2 + k) 0
further a x k =
    let e : x + 2 + k ≡ x + (2 + k) = omega arith in
    get_or-drop (x + 2) a k 0 ∙ ap (λ (n : ℕ). get_or a n 0) e ∙ sym (get_or-drop x a (2 + k) 0)

first_half : (a b : List ℕ) (x m : ℕ) → 2 ≤ m → take m (drop x a) ≡ take m (drop x b) → half_at a x ≡ half_at b x
first_half a b x m long same =
    let p = taken a b x m 0 (omega arith) same in
    let q = taken a b x m 1 (omega arith) same in
    omega (arith, p, q)

second_half : (a b : List ℕ) (x : ℕ) → take 4 (drop x a) ≡ take 4 (drop x b) → half_at a (x + 2) ≡ half_at b (x + 2)
second_half a b x same =
    let p : get_or (drop (x + 2) a) 0 0 ≡ get_or (drop (x + 2) b) 0 0 = further a x 0 ∙ taken a b x 4 2 (omega arith) same ∙ sym (further b x 0) in
    let q : get_or (drop (x + 2) a) 1 0 ≡ get_or (drop (x + 2) b) 1 0 = further a x 1 ∙ taken a b x 4 3 (omega arith) same ∙ sym (further b x 1) in
    omega (arith, p, q)

-- the decoded instruction, by whether it is long
decoded_by : (a : List ℕ) (x : ℕ) (b : Bool) → is_long (half_at a x) ≡ b → decoded_at a x 0 ≡ decode_given Outside (half_at a x) (if b then Some (half_at a (x + 2)) else None)
decoded_by a x b e = ap (λ (c : Bool). decode_given Outside (half_at a x) (if c then Some (half_at a (x + 2)) else None)) e

pub record Alike (a b : List ℕ) (x : ℕ) : Type 0 where
  pub decoded : decoded_at b x 0 ≡ decoded_at a x 0
  pub width : length_at b x ≡ length_at a x

pub alike : (a b : List ℕ) (x w : ℕ) → length_at a x ≡ w → take w (drop x b) ≡ take w (drop x a) → Alike a b x
alike a b x w width same = go (is_long (half_at a x)) refl
  where
    go : (c : Bool) → is_long (half_at a x) ≡ c → Alike a b x
    go true e =
        let four : w ≡ 4 = sym width ∙ ap (λ (c : Bool). cond c 4 2) e in
        let s : take 4 (drop x b) ≡ take 4 (drop x a) = subst (λ (n : ℕ). take n (drop x b) ≡ take n (drop x a)) four same in
        let f : half_at b x ≡ half_at a x = first_half b a x 4 (omega arith) s in
        let g : half_at b (x + 2) ≡ half_at a (x + 2) = second_half b a x s in
        let l : is_long (half_at b x) ≡ true = ap is_long f ∙ e in
        record {
          decoded = decoded_by b x true l ∙ ap (λ (h : ℕ). decode_given Outside h (Some (half_at b (x + 2)))) f ∙ ap (λ (h : ℕ). decode_given Outside (half_at a x) (Some h)) g ∙ sym (decoded_by a x true e);
          width = ap (λ (h : ℕ). cond (is_long h) 4 2) f;
        }
    go false e =
        let two : w ≡ 2 = sym width ∙ ap (λ (c : Bool). cond c 4 2) e in
        let s : take 2 (drop x b) ≡ take 2 (drop x a) = subst (λ (n : ℕ). take n (drop x b) ≡ take n (drop x a)) two same in
        let f : half_at b x ≡ half_at a x = first_half b a x 2 (omega arith) s in
        let l : is_long (half_at b x) ≡ false = ap is_long f ∙ e in
        record {
          decoded = decoded_by b x false l ∙ ap (λ (h : ℕ). decode_given Outside h None) f ∙ sym (decoded_by a x false e);
          width = ap (λ (h : ℕ). cond (is_long h) 4 2) f;
        }

pub renumbers_alike : (old a b : List ℕ) (x n y w : ℕ) → length_at old x ≡ w → take w (drop y b) ≡ take w (drop y a) → Renumbers old x n a y → Renumbers old x n b y
renumbers_alike old a b x n y w width same r =
    let k = alike a b y w (r.width ∙ width) same in
    record { instr = r.instr; was = r.was; becomes = k.decoded ∙ r.becomes; width = k.width ∙ r.width }

-- halfwords that were put somewhere stand there
put_half_reads : (b : List ℕ) (y h : ℕ) → h < 2 ^ 16 → take 2 (drop y b) ≡ half h → half_at b y ≡ h
put_half_reads b y h small same =
    let p : get_or (drop y b) 0 0 ≡ get_or (half h) 0 0 = sym (get_or-take 2 (drop y b) 0 0 (omega arith)) ∙ ap (λ (l : List ℕ). get_or l 0 0) same in
    let q : get_or (drop y b) 1 0 ≡ get_or (half h) 1 0 = sym (get_or-take 2 (drop y b) 1 0 (omega arith)) ∙ ap (λ (l : List ℕ). get_or l 1 0) same in
    omega (arith, p, q)

put_word_first : (b : List ℕ) (y f s : ℕ) → f < 2 ^ 16 → s < 2 ^ 16 → take 4 (drop y b) ≡ word (f + 2 ^ 16 * s) → half_at b y ≡ f
put_word_first b y f s lf ls same =
    let n = f + 2 ^ 16 * s in
    let p : get_or (drop y b) 0 0 ≡ get_or (word n) 0 0 = sym (get_or-take 4 (drop y b) 0 0 (omega arith)) ∙ ap (λ (l : List ℕ). get_or l 0 0) same in
    let q : get_or (drop y b) 1 0 ≡ get_or (word n) 1 0 = sym (get_or-take 4 (drop y b) 1 0 (omega arith)) ∙ ap (λ (l : List ℕ). get_or l 1 0) same in
    omega (arith, p, q)

put_word_second : (b : List ℕ) (y f s : ℕ) → f < 2 ^ 16 → s < 2 ^ 16 → take 4 (drop y b) ≡ word (f + 2 ^ 16 * s) → half_at b (y + 2) ≡ s
put_word_second b y f s lf ls same =
    let n = f + 2 ^ 16 * s in
    let p : get_or (drop (y + 2) b) 0 0 ≡ get_or (word n) 2 0 = further b y 0 ∙ sym (get_or-take 4 (drop y b) 2 0 (omega arith)) ∙ ap (λ (l : List ℕ). get_or l 2 0) same in
    let q : get_or (drop (y + 2) b) 1 0 ≡ get_or (word n) 3 0 = further b y 1 ∙ sym (get_or-take 4 (drop y b) 3 0 (omega arith)) ∙ ap (λ (l : List ℕ). get_or l 3 0) same in
    omega (arith, p, q)

pub record Reads (b : List ℕ) (y : ℕ) (c : Code) (i : Instr) : Type 0 where
  pub decoded : decoded_at b y 0 ≡ Ok i
  pub width : length_at b y ≡ length (code_bytes c)

pub code_reads : (b : List ℕ) (y : ℕ) (c : Code) (i : Instr) → StandsFor c i → take (length (code_bytes c)) (drop y b) ≡ code_bytes c → Reads b y c i
code_reads b y (code.Half h) i stands same =
    let f = put_half_reads b y h stands.0 same in
    let l : is_long (half_at b y) ≡ false = ap is_long f ∙ stands.1 in
    record {
      decoded = decoded_by b y false l ∙ ap (λ (k : ℕ). decode_given Outside k None) f
          ∙ ap (λ (k : Bool). cond k (Err Unknown) (decode Outside h 0)) stands.1 ∙ stands.2;
      width = ap (λ (k : Bool). cond k 4 2) l;
    }
code_reads b y (code.Full first second) i stands same =
    let f = put_word_first b y first second stands.0 stands.1 same in
    let s = put_word_second b y first second stands.0 stands.1 same in
    let l : is_long (half_at b y) ≡ true = ap is_long f ∙ stands.2 in
    record {
      decoded = decoded_by b y true l ∙ ap (λ (k : ℕ). decode_given Outside k (Some (half_at b (y + 2)))) f ∙ ap (λ (k : ℕ). decode_given Outside first (Some k)) s ∙ stands.3;
      width = ap (λ (k : Bool). cond k 4 2) l;
    }

pub code_width : (c : Code) (b : Bool) → width_of c ≡ width_if b → length (code_bytes c) ≡ cond b 4 2
code_width (code.Half h) true e = absurd (cc)
code_width (code.Half h) false e = refl
code_width (code.Full f s) true e = refl
code_width (code.Full f s) false e = absurd (cc)

-- the place of an instruction is as wide as it is
pub decoded_whole : (bytes : List ℕ) (end x it : ℕ) (i : Instr) → instr_at bytes end x it ≡ Ok i → (x + length_at bytes x ≤ end) × (decoded_at bytes x it ≡ Ok i)
decoded_whole bytes end x it i h = go (is_whole bytes end x) refl h
  where
    go : (b : Bool) → is_whole bytes end x ≡ b → cond b (decoded_at bytes x it) (Err Unknown) ≡ Ok i → (x + length_at bytes x ≤ end) × (decoded_at bytes x it ≡ Ok i)
    go true e h = (leb-true (x + length_at bytes x) end e, h)
    go false e h = absurd (cc)

pub place_is : (kind : RelocKind) (bytes : List ℕ) (x : ℕ) (i : Instr) → decoded_at bytes x 0 ≡ Ok i → fits_kind kind (is_long (half_at bytes x)) i ≡ true → place_width kind ≡ length_at bytes x
place_is kind bytes x i is fits = go kind (is_long (half_at bytes x)) refl fits
  where
    go : (k : RelocKind) (b : Bool) → is_long (half_at bytes x) ≡ b → fits_kind k b i ≡ true → place_width k ≡ cond b 4 2
    go Abs32 b e h = absurd (true≢false (sym h))
    go Target1 b e h = absurd (true≢false (sym h))
    go (Other n) b e h = absurd (true≢false (sym h))
    go ThmCall true e h = refl
    go ThmCall false e h = absurd (true≢false (sym h ∙ (long_alone bytes x i is e).0))
    go ThmJump24 true e h = refl
    go ThmJump24 false e h = absurd (true≢false (sym h))
    go MovwAbs true e h = refl
    go MovwAbs false e h = absurd (true≢false (sym h ∙ (long_alone bytes x i is e).1))
    go MovtAbs true e h = refl
    go MovtAbs false e h = absurd (true≢false (sym h ∙ (long_alone bytes x i is e).2))
    go ThmJump19 true e h = refl
    go ThmJump19 false e h = absurd (true≢false (sym h))
    go ThmJump11 true e h = absurd (true≢false (sym h))
    go ThmJump11 false e h = refl
    go ThmJump8 true e h = absurd (true≢false (sym h))
    go ThmJump8 false e h = refl

pub word_width : (k : RelocKind) → is_word k ≡ true → place_width k ≡ 4
word_width Abs32 h = refl
word_width Target1 h = refl
word_width ThmCall h = absurd (cc)
word_width ThmJump24 h = absurd (cc)
word_width MovwAbs h = absurd (cc)
word_width MovtAbs h = absurd (cc)
word_width ThmJump19 h = absurd (cc)
word_width ThmJump11 h = absurd (cc)
word_width ThmJump8 h = absurd (cc)
word_width (Other n) h = absurd (cc)

-- the instruction in the place of a right relocation
pub record HasInstr (k : Link) : Type 0 where
  pub instr : Instr
  pub is : decoded_at k.part.section.bytes k.reloc.offset 0 ≡ Ok instr
  pub fits : fits_kind k.reloc.kind (is_long (half_at k.part.section.bytes k.reloc.offset)) instr ≡ true
  pub width : place_width k.reloc.kind ≡ length_at k.part.section.bytes k.reloc.offset

module _ (objects : List ObjectParts) (at : Placement) (k : Link) (tie : IsTied objects at k) where
  pub has_instr : is_word k.reloc.kind ≡ false → HasInstr k
  has_instr none = go tie.right.place
    where
      own : bytes_of k.object k.reloc.section ≡ k.part.section.bytes
      own = own_bytes objects at k tie.link

      go : IsPlace k.object k.reloc → HasInstr k
      go (in_data s at is word) = absurd (true≢false (sym word ∙ none))
      go (in_code word is) = absurd (true≢false (sym word ∙ none))
      go (on_instr end i start given fits) =
          let d = (decoded_whole (bytes_of k.object k.reloc.section) end k.reloc.offset 0 i given).1 in
          let e : decoded_at k.part.section.bytes k.reloc.offset 0 ≡ Ok i = subst (λ (b : List ℕ). decoded_at b k.reloc.offset 0 ≡ Ok i) own d in
          let f : fits_kind k.reloc.kind (is_long (half_at k.part.section.bytes k.reloc.offset)) i ≡ true = subst (λ (b : List ℕ). fits_kind k.reloc.kind (is_long (half_at b k.reloc.offset)) i ≡ true) own fits in
          record { instr = i; is = e; fits = f; width = place_is k.reloc.kind k.part.section.bytes k.reloc.offset i e f }

  -- what is written stays, where its bytes stay
  pub written_stays : (parts : List Placed) (base : ℕ) (a b : List ℕ) → take (place_width k.reloc.kind) (drop (place_of k - base) b) ≡ take (place_width k.reloc.kind) (drop (place_of k - base) a) → IsWritten parts a base k → IsWritten parts b base k
  written_stays parts base a b same w = record {
    of_word = λ word. subst (λ (n : ℕ). take n (drop (place_of k - base) b) ≡ take n (drop (place_of k - base) a)) (word_width k.reloc.kind word) same ∙ w.of_word word;
    of_instr = λ instr. renumbers_alike k.part.section.bytes a b k.reloc.offset (value_of parts k) (place_of k - base) (place_width k.reloc.kind) (sym (has_instr instr).width) same (w.of_instr instr);
  }

  -- halfwords that were put at the place
  pub code_written : (parts : List Placed) (base : ℕ) (c : Code) (b : List ℕ) → is_word k.reloc.kind ≡ false → IsPlaceCode k (value_of parts k) c → take (length (code_bytes c)) (drop (place_of k - base) b) ≡ code_bytes c → IsWritten parts b base k
  code_written parts base c b none made same = record {
    of_word = λ word. absurd (true≢false (sym word ∙ none));
    of_instr = λ instr.
        let r = code_reads b (place_of k - base) c _ made.stands same in
        record { instr = made.instr; was = made.was; becomes = r.decoded; width = r.width ∙ code_width c (is_long (half_at k.part.section.bytes k.reloc.offset)) made.width };
  }

  pub place_code : (parts : List Placed) (c : Code) → is_word k.reloc.kind ≡ false → IsPlaceCode k (value_of parts k) c → length (code_bytes c) ≡ place_width k.reloc.kind
  place_code parts c none made = code_width c (is_long (half_at k.part.section.bytes k.reloc.offset)) made.width ∙ sym (has_instr none).width

  pub word_written : (parts : List Placed) (base : ℕ) (b : List ℕ) → is_word k.reloc.kind ≡ true → take 4 (drop (place_of k - base) b) ≡ word (full parts k) → IsWritten parts b base k
  word_written parts base b word same = record { of_word = λ _. same; of_instr = λ none. absurd (true≢false (sym word ∙ none)) }
