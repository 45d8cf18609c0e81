-- What linking puts at the places of one relocation of the object, in the hardened image.
use Rattle.std.specs.Prelude.{◌≡◌, ◌<◌, ℕ, pos, negsuc, ◌+◌, ◌-◌, ◌%◌, ◌^◌, ◌&&◌, not, Bool, true, false, cond, nat_lt, List, refl}
use Rattle.std.proofs.Common.{arith, ap, sym, ◌∙◌, subst}
use Rattle.std.proofs.lemmas.Bool.{both_ways, and_right, cond-false}
use Rattle.std.proofs.lemmas.Option.{same_Some}
use Rattle.elf_model.specs.declared.objects.RelocKind.{RelocKind}
use Rattle.elf_model.specs.declared.objects.RelocKind.TheVariants.{Abs32, Target1, ThmCall, ThmJump24, MovwAbs, MovtAbs, ThmJump19, ThmJump11, ThmJump8, Other}
use Rattle.mark_word.specs.declared.marks.Mark.TheVariants.{Plain}
use Rattle.thumb_instr.specs.Meanings.{signed}
use Rattle.reloc_places.specs.Relocations.{is_jump}
use Rattle.thumb_table.specs.declared.placements.Placement.{Placement}
use Rattle.thumb_table.specs.Parts.{Image}
use Rattle.thumb_table.specs.Layouts.{Placed, all_placed, part_of}
use Rattle.thumb_table.specs.Values.{away}
use Rattle.thumb_table.specs.Links.{Link, leads_to_code, offset_of, full, target_of, value_for, value_of, mark_for, mark_of}
use Rattle.sim_images.specs.Counterparts.{SameSense}
use Rattle.sim_images.specs.PairLaws.{SameValue}
use Rattle.sim_images.specs.PairLaws.SameValue.{number as same_number, address as same_address, branch as same_branch}
use Rattle.sim_images.proofs.ImageFacts.{parts_apart}
use Rattle.sim_answers.specs.Forms.{DoAnswer}
use Rattle.sim_relation.specs.Standing.{Linking}
use Rattle.sim_objects.specs.Lists.{Pairing, plains, hards, HaveImages}
use Rattle.sim_objects.specs.UnitLinks.{moved_in, GoesTo, IsPutFor}
use Rattle.sim_objects.specs.UnitLinks.IsPutFor.{number as put_number, address as put_address, branch as put_branch}

-- a number that is no branch's is of the full value alone
pub value_alone : (k : RelocKind) → is_jump k ≡ false → (a b f : ℕ) → value_for k a f ≡ value_for k b f
value_alone Abs32 n a b f = refl
value_alone Target1 n a b f = refl
value_alone MovwAbs n a b f = refl
value_alone MovtAbs n a b f = refl
value_alone (Other m) n a b f = refl
value_alone ThmCall n a b f = absurd (both_ways true n refl)
value_alone ThmJump24 n a b f = absurd (both_ways true n refl)
value_alone ThmJump19 n a b f = absurd (both_ways true n refl)
value_alone ThmJump11 n a b f = absurd (both_ways true n refl)
value_alone ThmJump8 n a b f = absurd (both_ways true n refl)

-- a branch's is its offset
pub jump_value : (k : RelocKind) → is_jump k ≡ true → (a f : ℕ) → value_for k a f ≡ a
jump_value ThmCall n a f = refl
jump_value ThmJump24 n a f = refl
jump_value ThmJump19 n a f = refl
jump_value ThmJump11 n a f = refl
jump_value ThmJump8 n a f = refl
jump_value Abs32 n a f = absurd (both_ways false refl n)
jump_value Target1 n a f = absurd (both_ways false refl n)
jump_value MovwAbs n a f = absurd (both_ways false refl n)
jump_value MovtAbs n a f = absurd (both_ways false refl n)
jump_value (Other m) n a f = absurd (both_ways false refl n)

-- where a signed offset leads
pub away_signed : (b n : ℕ) → n < 2 ^ 32 → away b (signed 32 n) ≡ (b + n) % 2 ^ 32
away_signed b n l = go (nat_lt n (2 ^ (32 - 1))) refl
  where
    go : (t : Bool) → nat_lt n (2 ^ (32 - 1)) ≡ t → away b (cond t (pos n) (negsuc (2 ^ 32 - 1 - n))) ≡ (b + n) % 2 ^ 32
    go true e = refl
    go false e = omega (arith, l)

module _ (F c K : ℕ) (pairs : List (Pairing F c K)) (at : Placement) (plain hard : Image) (images : HaveImages F c K pairs at plain hard) (do_answer : DoAnswer (plains pairs) (hards pairs) (moved_in pairs)) where
  -- a point has one place
  pub goes_once : (a b d : ℕ) → GoesTo F c K pairs at a b → GoesTo F c K pairs at a d → b ≡ d
  goes_once a b d g h =
      let one = do_answer.answers.places g.file g.object g.twin g.was.object g.becomes.object g.section g.old g.new g.part.section g.place.section g.row g.was.section g.becomes.section in
      let two = do_answer.answers.places h.file h.object h.twin h.was.object h.becomes.object h.section h.old h.new h.part.section h.place.section h.row h.was.section h.becomes.section in
      let same_place = parts_apart (plains pairs) at images.objects images.image.placement images.image.can g.file g.section h.file h.section g.object h.object g.part h.part g.was h.was g.old h.old one.0 two.0 (sym g.from ∙ h.from) in
      let file = same_place.0 in
      let section = same_place.1 in
      let old = same_place.2 in
      let new : g.new ≡ h.new = same_Some g.new h.new (sym g.row ∙ (ap (λ (n : ℕ). moved_in pairs n g.section g.old) file ∙ (ap (λ (n : ℕ). moved_in pairs h.file n g.old) section ∙ (ap (λ (n : ℕ). moved_in pairs h.file h.section n) old ∙ h.row)))) in
      let place : g.place ≡ h.place = same_Some g.place h.place (sym g.becomes.part ∙ (ap (λ (n : ℕ). part_of (all_placed (hards pairs) at) n g.section) file ∙ (ap (λ (n : ℕ). part_of (all_placed (hards pairs) at) h.file n) section ∙ h.becomes.part))) in
      let start : g.place.start ≡ h.place.start = ap (λ (p : Placed). p.start) place in
      let to = g.to in
      let other = h.to in
      omega (arith, to, other, start, new)

  -- with the mark that comes with it
  pub data Puts (l : Link) (link : Linking) : Type 0 where
    branch : is_jump l.reloc.kind ≡ true → GoesTo F c K pairs at (target_of (all_placed (plains pairs) at) l) link.target → link.mark ≡ Plain → Puts l link
    number : is_jump l.reloc.kind ≡ false → leads_to_code (all_placed (plains pairs) at) l ≡ false → link.number ≡ value_of (all_placed (plains pairs) at) l → link.mark ≡ Plain → Puts l link
    address : (a b : ℕ) → is_jump l.reloc.kind ≡ false → leads_to_code (all_placed (plains pairs) at) l ≡ true → full (all_placed (plains pairs) at) l ≡ a + 1 → GoesTo F c K pairs at a b
        → link.number ≡ value_for l.reloc.kind 0 (b + 1) → link.mark ≡ mark_for l.reloc.kind (b + 1) → Puts l link

  pub put_for : (l : Link) (link : Linking) → Puts l link → IsPutFor F c K pairs at l link
  put_for l link (branch j g m) = put_branch j g
  put_for l link (number j out n m) = put_number j out n
  put_for l link (address a b j code f g n m) = put_address a b j code f g n

  abbrev pub Same : Link → Link → Type 0
  Same l m = SameValue (plains pairs) (hards pairs) at (moved_in pairs) l m

  mark_out : (m : Link) → leads_to_code (all_placed (hards pairs) at) m ≡ false → mark_of (all_placed (hards pairs) at) m ≡ Plain
  mark_out m out = ap (λ (b : Bool). cond (b && not (is_jump m.reloc.kind)) (mark_for m.reloc.kind (full (all_placed (hards pairs) at) m)) Plain) out

  mark_jump : (m : Link) → is_jump m.reloc.kind ≡ true → mark_of (all_placed (hards pairs) at) m ≡ Plain
  mark_jump m jump = cond-false (leads_to_code (all_placed (hards pairs) at) m && not (is_jump m.reloc.kind)) (mark_for m.reloc.kind (full (all_placed (hards pairs) at) m)) Plain (and_right (leads_to_code (all_placed (hards pairs) at) m) (not (is_jump m.reloc.kind)) (ap not jump))

  mark_in : (m : Link) → leads_to_code (all_placed (hards pairs) at) m ≡ true → is_jump m.reloc.kind ≡ false → mark_of (all_placed (hards pairs) at) m ≡ mark_for m.reloc.kind (full (all_placed (hards pairs) at) m)
  mark_in m code jump =
      ap (λ (b : Bool). cond (b && not (is_jump m.reloc.kind)) (mark_for m.reloc.kind (full (all_placed (hards pairs) at) m)) Plain) code
      ∙ ap (λ (b : Bool). cond (not b) (mark_for m.reloc.kind (full (all_placed (hards pairs) at) m)) Plain) jump

  -- the link m of the hardened list puts just this
  pub record Agrees (m : Link) (link : Linking) : Type 0 where
    pub target : is_jump m.reloc.kind ≡ true → link.target ≡ target_of (all_placed (hards pairs) at) m
    pub number : is_jump m.reloc.kind ≡ false → link.number ≡ value_of (all_placed (hards pairs) at) m
    pub mark : link.mark ≡ mark_of (all_placed (hards pairs) at) m

  hard_value : (l m : Link) → SameSense l.reloc m.reloc → is_jump l.reloc.kind ≡ false → (f : ℕ) → full (all_placed (hards pairs) at) m ≡ f → value_of (all_placed (hards pairs) at) m ≡ value_for l.reloc.kind 0 f
  hard_value l m sense jump f e =
      ap (λ (k : RelocKind). value_for k (offset_of (all_placed (hards pairs) at) m) (full (all_placed (hards pairs) at) m)) (sense.kind jump)
      ∙ (value_alone l.reloc.kind jump (offset_of (all_placed (hards pairs) at) m) 0 (full (all_placed (hards pairs) at) m) ∙ ap (λ (n : ℕ). value_for l.reloc.kind 0 n) e)

  pub agrees : (l m : Link) (link : Linking) → SameSense l.reloc m.reloc → Same l m → Puts l link → Agrees m link
  agrees l m link sense (same_number j out hard_out f) (number k o n mark) = record {
    target = λ t. absurd (both_ways (is_jump m.reloc.kind) (sense.jump ∙ j) t);
    number = λ t. n ∙ (value_alone l.reloc.kind j (offset_of (all_placed (plains pairs) at) l) 0 (full (all_placed (plains pairs) at) l) ∙ sym (hard_value l m sense j (full (all_placed (plains pairs) at) l) f));
    mark = mark ∙ sym (mark_out m hard_out);
  }
  agrees l m link sense (same_number j out hard_out f) (branch k g mark) = absurd (both_ways (is_jump l.reloc.kind) j k)
  agrees l m link sense (same_number j out hard_out f) (address a b k code g to n mark) = absurd (both_ways (leads_to_code (all_placed (plains pairs) at) l) out code)
  agrees l m link sense (same_address a b j code hard_code f g to) (address d e k other v to_too n mark) =
      let from : d ≡ a = omega (arith, f, v) in
      let one : e ≡ b = goes_once a e b (subst (λ (x : ℕ). GoesTo F c K pairs at x e) from to_too) to in
      record {
        target = λ t. absurd (both_ways (is_jump m.reloc.kind) (sense.jump ∙ j) t);
        number = λ t. n ∙ (ap (λ (x : ℕ). value_for l.reloc.kind 0 (x + 1)) one ∙ sym (hard_value l m sense j (b + 1) g));
        mark = mark ∙ (ap (λ (x : ℕ). mark_for l.reloc.kind (x + 1)) one ∙ (ap (λ (x : ℕ). mark_for l.reloc.kind x) (sym g)
            ∙ (ap (λ (x : RelocKind). mark_for x (full (all_placed (hards pairs) at) m)) (sym (sense.kind j)) ∙ sym (mark_in m hard_code (sense.jump ∙ j)))));
      }
  agrees l m link sense (same_address a b j code hard_code f g to) (branch k h mark) = absurd (both_ways (is_jump l.reloc.kind) j k)
  agrees l m link sense (same_address a b j code hard_code f g to) (number k out n mark) = absurd (both_ways (leads_to_code (all_placed (plains pairs) at) l) out code)
  agrees l m link sense (same_branch j to) (branch k too mark) = record {
    target = λ t. goes_once (target_of (all_placed (plains pairs) at) l) link.target (target_of (all_placed (hards pairs) at) m) too to;
    number = λ t. absurd (both_ways (is_jump m.reloc.kind) t (sense.jump ∙ j));
    mark = mark ∙ sym (mark_jump m (sense.jump ∙ j));
  }
  agrees l m link sense (same_branch j to) (number k out n mark) = absurd (both_ways (is_jump l.reloc.kind) k j)
  agrees l m link sense (same_branch j to) (address a b k code f g n mark) = absurd (both_ways (is_jump l.reloc.kind) k j)

  -- what m puts
  pub link_of : Link → Linking
  link_of m = record { target = target_of (all_placed (hards pairs) at) m; number = value_of (all_placed (hards pairs) at) m; mark = mark_of (all_placed (hards pairs) at) m }

  pub puts : (l m : Link) → SameSense l.reloc m.reloc → Same l m → Puts l (link_of m)
  unfolding link_of
  puts l m sense (same_number j out hard_out f) =
      number j out (hard_value l m sense j (full (all_placed (plains pairs) at) l) f ∙ value_alone l.reloc.kind j 0 (offset_of (all_placed (plains pairs) at) l) (full (all_placed (plains pairs) at) l)) (mark_out m hard_out)
  puts l m sense (same_address a b j code hard_code f g to) =
      address a b j code f to (hard_value l m sense j (b + 1) g)
      (mark_in m hard_code (sense.jump ∙ j) ∙ (ap (λ (x : RelocKind). mark_for x (full (all_placed (hards pairs) at) m)) (sense.kind j) ∙ ap (λ (x : ℕ). mark_for l.reloc.kind x) g))
  puts l m sense (same_branch j to) = branch j to (mark_jump m (sense.jump ∙ j))
