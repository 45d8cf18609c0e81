-- The points of a chart of lists are those of the objects' flows, and stand in the plain image.
use Rattle.std.specs.Prelude.{◌≡◌, ℕ, ◌+◌, List, Option, Some, Ok, slice_get, refl}
use Rattle.std.proofs.Common.{ap, sym, ◌∙◌, subst}
use Rattle.std.proofs.lemmas.Option.{none-some, same_Some}
use Rattle.elf_model.specs.Objects.{ObjectParts}
use Rattle.elf_model.specs.Ranges.{length_at}
use Rattle.mark_word.specs.declared.marks.Mark.{Mark}
use Rattle.thumb_instr.specs.declared.instructions.Instr.{Instr}
use Rattle.thumb_instr.specs.declared.instructions.Instr.TheVariants as instr
use Rattle.thumb_instr.specs.Blocks.{place_in_block}
use Rattle.thumb_instr.specs.Numbers.{renumbered}
use Rattle.thumb_instr.specs.Rows.{decode}
use Rattle.thumb_instr.proofs.Decoded.{decode_formed}
use Rattle.thumb_table.specs.declared.placements.Placement.{Placement}
use Rattle.thumb_table.specs.Parts.{Image}
use Rattle.thumb_table.specs.Layouts.{all_placed}
use Rattle.thumb_table.specs.Links.{Link, value_of}
use Rattle.reloc_places.specs.Starts.{bytes_of}
use Rattle.reloc_places.specs.Relocations.{reloc_at}
use Rattle.flow_recover.specs.declared.flows.Point.{Point as FlowPoint}
use Rattle.sim_charts.specs.Charts.{Point}
use Rattle.sim_charts.specs.Flows.{Stands}
use Rattle.sim_images.specs.CodeLaws.{Fetches, IsLinkedInstr, alone, linked}
use Rattle.sim_images.proofs.Sequences.{one_stands}
use Rattle.sim_images.proofs.StandingLinked.{same_link}
use Rattle.sim_flows.specs.Points.{IsPointOf}
use Rattle.sim_relation.specs.Accepted.{boundaries}
use Rattle.sim_relation.proofs.FlowPoints.{decodes}
use Rattle.sim_objects.specs.Lists.{Pairing, plains, HaveImages}
use Rattle.sim_objects.specs.Charts.{address_in, width_of, IsCharted, IsPointAt}
use Rattle.sim_objects.specs.Standing.{ChartsHavePoints, PointsStand}
use Rattle.sim_objects.proofs.Parts.{start_is, address_is, in_plain, plain_cond}

-- of two numbers the last one counts
renumbered_twice : (n m : ℕ) (i : Instr) → renumbered n (renumbered m i) ≡ renumbered n i
renumbered_twice n m (instr.Half i) = refl
renumbered_twice n m (instr.Branch i) = refl
renumbered_twice n m (instr.Call i) = refl
renumbered_twice n m i = refl

-- linking sets no more than the number
but_number : (objects : List ObjectParts) (at : Placement) (i n : ℕ) (x : Instr) (reloc : Option ℕ) (now : Instr) (mark : Mark) → IsLinkedInstr objects at i x reloc now mark → renumbered n now ≡ renumbered n x
but_number objects at i n x _ _ _ (alone y) = refl
but_number objects at i n x _ _ _ (linked l y is file) = renumbered_twice n (value_of (all_placed objects at) l) x

-- and sets one number
one_number : (objects : List ObjectParts) (at : Placement) (i : ℕ) (x : Instr) (r s : Option ℕ) (a b : Instr) (m k : Mark) → r ≡ s
    → IsLinkedInstr objects at i x r a m → IsLinkedInstr objects at i x s b k → a ≡ b
one_number objects at i x _ _ _ _ _ _ e (alone y) (alone z) = refl
one_number objects at i x _ _ _ _ _ _ e (alone y) (linked l z is file) = absurd (none-some l.number e)
one_number objects at i x _ _ _ _ _ _ e (linked l y is file) (alone z) = absurd (none-some l.number (sym e))
one_number objects at i x _ _ _ _ _ _ e (linked l y is file) (linked m z other place) =
    ap (λ (k : Link). renumbered (value_of (all_placed objects at) k) x) (same_link objects at l m is other (file ∙ sym place) (same_Some l.number m.number e))

module _ (F c K : ℕ) (pairs : List (Pairing F c K)) (at : Placement) where
  pub flow_point : (i n : ℕ) (q : Pairing F c K) (x : FlowPoint) (p : Point) → slice_get q.pair.flow.points n ≡ Some x → IsCharted F c K pairs at i q n x p
      → IsPointOf q.pair.flow (boundaries K) (address_in (plains pairs) at i q.pair.flow) n x p
  flow_point i n q x p there is =
      let d = decodes q.plain q.pair.flow q.pair.accepted.flow n x there in
      record {
        instr = λ m. but_number (plains pairs) at i m x.instr x.reloc p.instr is.mark is.instr;
        formed = decode_formed d.place d.first d.second x.instr d.is;
        cond = sym (plain_cond q.plain q.pair.flow q.pair.accepted.flow n p.it x there is.state);
        way = is.way;
        next = is.next;
        live = is.live;
        entry = is.entry.0;
      }

pub charts_have_points : ChartsHavePoints
charts_have_points F c K pairs at chart is i q is_pair n x there =
    let p = is.each i n q x is_pair there in
    (p.0, p.1, flow_point F c K pairs at i n q x p.0 there p.2)

module _ (F c K : ℕ) (pairs : List (Pairing F c K)) (at : Placement) (plain hard : Image) (images : HaveImages F c K pairs at plain hard) where
  stands_there : (a : ℕ) (p : Point) → IsPointAt F c K pairs at a p → Stands plain.code a p
  stands_there a p A =
      let is = A.is in
      let x = A.point in
      let pa = in_plain F c K pairs at plain hard images A.file A.number A.pairing x A.is_pair A.is_point p.it is.state in
      let s = one_stands (plains pairs) at plain images.objects images.image A.file x.section A.pairing.plain pa.part pa.here x.offset pa.end p.it x.instr pa.start pa.instr in
      let there : a ≡ pa.part.start + x.offset =
      A.address ∙ address_is F c K pairs at plain hard images A.file A.number A.pairing x A.is_pair A.is_point
      ∙ ap (λ (k : ℕ). k + x.offset) (start_is (plains pairs) at A.file x.section A.pairing.plain pa.part pa.here) in
      let same : s.now ≡ p.instr =
      one_number (plains pairs) at A.file x.instr (reloc_at A.pairing.plain x.section x.offset) x.reloc s.now p.instr s.mark is.mark (sym pa.reloc) s.is is.instr in
      let f = subst (λ (k : ℕ). Fetches plain.code k p.it s.now (length_at (bytes_of A.pairing.plain x.section) x.offset) s.mark) (sym there) s.there in
      record {
        fetched = f.fetched;
        there = f.there;
        width = wide f.fetched.width (length_at (bytes_of A.pairing.plain x.section) x.offset) (width_of x) p.width f.wide pa.length is.width;
        means = subst (λ (z : Instr). decode (place_in_block p.it) f.fetched.first f.fetched.second ≡ Ok z) same f.means;
      }
    where
      wide : (a b c d : ℕ) → a ≡ b → c ≡ b → d ≡ c → a ≡ d
      wide a b c d e f g = e ∙ sym (g ∙ f)

pub points_stand : PointsStand
points_stand F c K pairs at plain hard chart images is a p there = stands_there F c K pairs at plain hard images a p (is.only a p there)
