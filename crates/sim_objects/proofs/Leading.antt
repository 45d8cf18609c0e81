-- Where the branches and calls of a chart's points lead in both images.
use Rattle.std.specs.Prelude.{◌≡◌, ◌<◌, ◌≤◌, ◌⊎◌, ℕ, ◌+◌, ◌-◌, ◌%◌, ◌^◌, ◌==◌, Bool, true, false, cond, List, Option, Some, None, slice_get, refl}
use Rattle.std.proofs.Common.{arith, inl, inr, ap, sym, ◌∙◌, subst}
use Rattle.std.proofs.lemmas.Bool.{cases_Bool, both_ways, eqb-true, eq-eqb}
use Rattle.std.proofs.lemmas.Option.{none-some, same_Some, slice_get_within}
use Rattle.elf_model.specs.declared.objects.Section.{Section}
use Rattle.elf_model.specs.declared.objects.Symbol.{Symbol}
use Rattle.elf_model.specs.declared.objects.Reloc.{Reloc}
use Rattle.elf_model.specs.declared.objects.Home.{Home}
use Rattle.elf_model.specs.declared.objects.Home.TheVariants as homes
use Rattle.elf_model.specs.Constants.{local}
use Rattle.elf_model.specs.Objects.{ObjectParts}
use Rattle.elf_model.proofs.Elements.{element_at, contains_at, place_of}
use Rattle.thumb_instr.specs.declared.instructions.Instr.{Instr}
use Rattle.thumb_instr.specs.declared.instructions.Instr.TheVariants as instr
use Rattle.thumb_instr.specs.Fields.{ZeroBranchFields}
use Rattle.thumb_instr.specs.Numbers.{renumbered}
use Rattle.reloc_places.specs.Starts.{bytes_of}
use Rattle.reloc_places.specs.Relocations.{is_jump, fits_kind, IsRight, reloc_at, target_of}
use Rattle.reloc_places.proofs.StartFacts.{start_before}
use Rattle.thumb_table.specs.declared.placements.Placement.{Placement}
use Rattle.thumb_table.specs.Parts.{Image}
use Rattle.thumb_table.specs.Layouts.{all_placed}
use Rattle.thumb_table.specs.Names.{is_defined}
use Rattle.thumb_table.specs.Values.{away}
use Rattle.thumb_table.specs.Links.{Link, IsLink, sum_of, full, value_of, offset_of as link_offset, target_of as linked_target}
use Rattle.flow_recover.specs.declared.flows.Exit.{Exit}
use Rattle.flow_recover.specs.declared.flows.Exit.TheVariants as exits
use Rattle.flow_recover.specs.declared.flows.Point.{Point as FlowPoint}
use Rattle.flow_recover.specs.Flows.{FlowParts}
use Rattle.flow_recover.specs.Points.{IsPointAt as IsFlowPointAt}
use Rattle.flow_recover.specs.Aims.{is_branch, has_offset, offset_of, own_target, aim_at, IsAim, by_offset, by_symbol, not_right}
use Rattle.flow_recover.specs.FlowFaults.{IsReachedInstr}
use Rattle.flow_recover.specs.Walks.{offset_in}
use Rattle.flow_recover.specs.WholeFlows.{plain_exit, is_near, IsExit, plain, near, far, IsPoint, IsEntry, entered, IsFlow}
use Rattle.flow_recover.specs.WholeFlows.{Enters as entering}
use Rattle.flow_recover.proofs.AimFacts.{aim_once}
use Rattle.flow_recover.proofs.FlowPoints.{target_there}
use Rattle.sim_charts.specs.Charts.{Chart, Point, leaves}
use Rattle.sim_answers.proofs.PointPlaces.{at_point, entry_point}
use Rattle.sim_flows.specs.Meeting.{target_at}
use Rattle.sim_images.proofs.ValuesAlike.{local_means}
use Rattle.sim_relation.specs.Standing.{Linking}
use Rattle.sim_relation.proofs.FlowPoints.{decodes}
use Rattle.sim_objects.specs.Lists.{Pairing, plains, hards, HaveImages}
use Rattle.sim_objects.specs.Charts.{start_at, address_in, IsPointAt, IsChartOf}
use Rattle.sim_objects.specs.UnitLinks.{IsUnitLink, branch, number, address}
use Rattle.sim_objects.specs.Moving.{Stays}
use Rattle.sim_objects.proofs.Parts.{PlainPart, in_plain, plain_low, start_is}
use Rattle.sim_objects.proofs.Reaching.{decode_near}
use Rattle.sim_objects.proofs.Apart.{points_lie_low}
use Rattle.sim_objects.proofs.Moving.{one_point, address_there, point_there, goes_there, entry_there}
use Rattle.sim_objects.proofs.Entering.{right, meant_there, own_object, own_home, own_branch, branch_leads, branch_enters}
use Rattle.sim_objects.proofs.LinkedPoints.{HowLinked, as_is, by_link, how_linked, zero_has_none, branch_jumps, linked_offset, jump_value, IsPointLink, point_link}
use Rattle.sim_objects.proofs.Distances.{own_leads, linked_away}

-- a point lies in its section
pub point_inside : (o : ObjectParts) (f : FlowParts) → IsFlow o f → (j t n : ℕ) → IsFlowPointAt f j t n → (s : Section) → slice_get o.sections j ≡ Some s → t < s.size
point_inside o f flow j t n y s there =
    let at = at_point o f flow y.point (contains_at f.points n y.point y.there) in
    let same : at.start.range.section ≡ s = same_Some at.start.range.section s (sym at.start.range.is_there ∙ (ap (λ (k : ℕ). slice_get o.sections k) y.section ∙ there)) in
    let below : y.point.offset < at.end = start_before (bytes_of o y.point.section) at.start.start at.end y.point.offset at.start.is_start in
    let inside : at.end ≤ at.start.range.section.size = at.start.range.inside in
    let size : at.start.range.section.size ≡ s.size = ap (λ (z : Section). z.size) same in
    let offset : y.point.offset ≡ t = y.offset in
    omega (arith, below, inside, size, offset)

-- exits
either_leads : (b : Bool) (d e : Exit) (q : ℕ) → (d ≡ exits.Branch q → ⊥) → (e ≡ exits.Branch q → ⊥) → cond b d e ≡ exits.Branch q → ⊥
either_leads true d e q no_d no_e h = no_d h
either_leads false d e q no_d no_e h = no_e h

plain_leads : (i : Instr) (q : ℕ) → plain_exit i ≡ exits.Branch q → ⊥
plain_leads (instr.Jump i) q h = either_leads (i.m == 14) exits.Return exits.Transfer q (λ e. cc) (λ e. cc) h
plain_leads (instr.Multi i) q h = either_leads i.pc exits.Return exits.Falls q (λ e. cc) (λ e. cc) h
plain_leads _ q h = cc

branch_has : (i : Instr) → is_branch i ≡ true → has_offset i ≡ true
branch_has (instr.Branch i) e = refl
branch_has (instr.ZeroBranch i) e = refl
branch_has i e = (cc)

-- What a flow says of one of its points: how it goes on, and where control enters from it.
pub data Exits (o : ObjectParts) (x : FlowPoint) : Type 0 where
  by_kind : is_branch x.instr ≡ false → Exits o x
  to_near : (q : ℕ) → is_branch x.instr ≡ true → x.exit ≡ exits.Branch q → Exits o x
  to_far : is_branch x.instr ≡ true → ((b : _) → IsAim o x.section x.offset x.instr b → is_near b ≡ false) → Exits o x

pub record Said (o : ObjectParts) (x : FlowPoint) : Type 0 where
  pub exit : Exits o x
  pub leads : (q : ℕ) → x.exit ≡ exits.Branch q → has_offset x.instr ≡ true
  pub own_call : reloc_at o x.section x.offset ≡ None → has_offset x.instr ≡ true → is_branch x.instr ≡ false → IsEntry o x.section (own_target x.offset x.instr)
  pub by_own_symbol : (k : ℕ) (r : Reloc) (s : Symbol) → reloc_at o x.section x.offset ≡ Some k → IsRight o k r → slice_get o.symbols r.symbol ≡ Some s → s.home ≡ homes.Section x.section
      → has_offset x.instr ≡ true → ((s.bind == local) ≡ true → is_branch x.instr ≡ false) → IsEntry o x.section (target_of o r s)

pub said : (o : ObjectParts) (f : FlowParts) (flow : IsFlow o f) (n : ℕ) (x : FlowPoint) → slice_get f.points n ≡ Some x → Said o x
said o f flow n x there =
    let m = element_at flow.nodes n (subst (λ (k : ℕ). n < k) flow.count (slice_get_within f.points n x there)) in
    let is = flow.points n m.0 x m.1 there in
    go is (record { reached = (flow.reached m.0).0 (contains_at flow.nodes n m.0 m.1); found = is.instr })
  where
    go : {n : _} → IsPoint o flow.nodes f.words n x → IsReachedInstr o n x.instr → Said o x
    go {n} is reached = record {
      exit = by_exit is.exit;
      leads = λ q e. branches q is.exit e;
      own_call = λ none has un. subst (λ (k : ℕ). IsEntry o x.section (own_target k x.instr)) (sym is.offset) (entered n x.instr reached (entering.by_call has un (by_offset (place None none) refl)) is.section);
      by_own_symbol = λ k r s named right names home has calls.
          let own : s.home ≡ homes.Section n.section = home ∙ ap (λ (j : ℕ). homes.Section j) is.section in
          elim (cases_Bool (s.bind == local)) [
            | inl t ↦ entered n x.instr reached (entering.by_call has (calls t) (by_symbol k r s (place (Some k) named) right names (rw own (rw (eq-eqb n.section n.section refl) (rw t refl))))) is.section
            | inr t ↦ entered n x.instr reached (entering.by_symbol has (by_symbol k r s (place (Some k) named) right names (rw own (rw (eq-eqb n.section n.section refl) (rw t refl))))) is.section
          ];
    }
      where
        place : (k : Option ℕ) → reloc_at o x.section x.offset ≡ k → reloc_at o n.section n.offset ≡ k
        place k e = subst (λ (j : ℕ). reloc_at o j n.offset ≡ k) is.section (subst (λ (a : ℕ). reloc_at o x.section a ≡ k) is.offset e)

        aim_there : {b : _} → IsAim o x.section x.offset x.instr b → IsAim o n.section n.offset x.instr b
        aim_there {b} aim = subst (λ (j : ℕ). IsAim o j n.offset x.instr b) is.section (subst (λ (k : ℕ). IsAim o x.section k x.instr b) is.offset aim)

        by_exit : IsExit o flow.nodes n x.instr x.exit → Exits o x
        by_exit (plain un same) = by_kind un
        by_exit (near t q is aim there same) = to_near q is same
        by_exit (far a is aim away same) = to_far is (λ b other. ap is_near (aim_once o n.section n.offset x.instr b a (aim_there other) aim) ∙ away)

        branches : (q : ℕ) → IsExit o flow.nodes n x.instr x.exit → x.exit ≡ exits.Branch q → has_offset x.instr ≡ true
        branches q (plain un same) b = absurd (plain_leads x.instr q (sym same ∙ b))
        branches q (near t r is aim there same) b = branch_has x.instr is
        branches q (far a is aim away same) b = branch_has x.instr is

-- what leaves or calls does not go to a point of its section by an exit
never_near : (e : Exit) (q : ℕ) → (e ≡ exits.Transfer) ⊎ (e ≡ exits.Call) → e ≡ exits.Branch q → ⊥
never_near e q (inl t) b = let x = sym t ∙ b in cc
never_near e q (inr t) b = let x = sym t ∙ b in cc

-- what is near by a symbol
pub record IsNearBy (j : ℕ) (s : Symbol) (target t : ℕ) : Type 0 where
  pub home : s.home ≡ homes.Section j
  pub bind : s.bind ≡ local
  pub same : t ≡ target

near_by : (j : ℕ) (s : Symbol) (target t : ℕ) → is_near (aim_at j s s.home target) ≡ true → offset_in (aim_at j s s.home target) ≡ Some t → IsNearBy j s target t
near_by j s target t e = by_home s.home refl e
  where
    by_home : (h : Home) → s.home ≡ h → is_near (aim_at j s h target) ≡ true → offset_in (aim_at j s h target) ≡ Some t → IsNearBy j s target t
    by_home homes.Undefined at g k = absurd (both_ways false refl g)
    by_home homes.Absolute at g k = absurd (both_ways false refl g)
    by_home (homes.Section h) at g k =
        elim (cases_Bool (h == j)) [
          | inr n ↦ let no : is_near (aim_at j s (homes.Section h) target) ≡ false = rw n refl in absurd (both_ways _ no g)
          | inl y ↦ elim (cases_Bool (s.bind == local)) [
            | inr n ↦ let no : is_near (aim_at j s (homes.Section h) target) ≡ false = rw y (rw n refl) in absurd (both_ways _ no g)
            | inl z ↦
                let goal : offset_in (aim_at j s (homes.Section h) target) ≡ Some target = rw y (rw z refl) in
                record { home = at ∙ ap (λ (k : ℕ). homes.Section k) (eqb-true h j y); bind = eqb-true s.bind local z; same = same_Some t target (sym k ∙ goal) }
          ]
        ]

near_so : (j : ℕ) (s : Symbol) (target : ℕ) → s.home ≡ homes.Section j → (s.bind == local) ≡ true → is_near (aim_at j s s.home target) ≡ true
near_so j s target home t = rw home (rw (eq-eqb j j refl) (rw t refl))

module _ (F c K : ℕ) (pairs : List (Pairing F c K)) (at : Placement) (plain hard : Image) (images : HaveImages F c K pairs at plain hard) (chart : Chart) (is : IsChartOf F c K pairs at chart)
    (a : ℕ) (p : Point) (A : IsPointAt F c K pairs at a p) (link : Linking) (given : IsUnitLink F c K pairs at A.file A.pairing A.point link) where
  abbrev o : ObjectParts
  o = A.pairing.plain

  abbrev f : FlowParts
  f = A.pairing.pair.flow

  abbrev flow : IsFlow o f
  flow = A.pairing.pair.accepted.flow

  abbrev x : FlowPoint
  x = A.point

  abbrev start : ℕ
  start = start_at (plains pairs) at A.file A.point.section

  abbrev pub part : PlainPart (plains pairs) at A.file A.pairing.plain A.point p.it
  part = in_plain F c K pairs at plain hard images A.file A.number A.pairing A.point A.is_pair A.is_point p.it A.is.state

  pub start_here : start_at (plains pairs) at A.file A.point.section ≡ part.part.start
  start_here = start_is (plains pairs) at A.file A.point.section A.pairing.plain part.part part.here

  pub from : a ≡ part.part.start + A.point.offset
  from = A.address ∙ (address_there (plains pairs) at A.file A.number A.point.section A.point.offset f (record { point = A.point; there = A.is_point; section = refl; offset = refl }) ∙ ap (λ (k : ℕ). k + A.point.offset) start_here)

  pub low : (part.part.start % 4 ≡ 0) × (part.part.start + part.part.section.size ≤ 0x7FFFF000)
  low = plain_low F c K pairs at plain hard images A.file A.number A.pairing A.point A.is_pair A.is_point p.it A.is.state

  below : a < 2 ^ 32
  below =
      let e = from in
      let inside = part.inside in
      let high = low.1 in
      omega (arith, e, inside, high)

  about : Said o x
  about = said o f flow A.number x A.is_point

  pub how : HowLinked (plains pairs) at A.file A.point.instr A.point.reloc p.instr A.is.mark
  how = how_linked (plains pairs) at A.file A.point.instr A.point.reloc p.instr A.is.mark A.is.instr

  module _ (l : Link) (il : IsLink (plains pairs) at l) (file : l.file ≡ A.file) (named : A.point.reloc ≡ Some l.number) where
    pub of_point : IsPointLink A.pairing.plain A.point part.part l
    of_point = point_link (plains pairs) at A.file o f flow A.number x A.is_point part.part part.here l il file named (right F c K pairs at plain hard images chart is l il)

    jumps : has_offset A.point.instr ≡ true → is_jump l.reloc.kind ≡ true
    jumps offset = branch_jumps l.reloc.kind of_point.kind.long x.instr offset of_point.kind.fits

    -- the plain branch leads to the link's target
    target_linked : has_offset A.point.instr ≡ true → p.instr ≡ renumbered (value_of (all_placed (plains pairs) at) l) A.point.instr → target_at a p ≡ linked_target (all_placed (plains pairs) at) l
    target_linked offset now =
        let parts = all_placed (plains pairs) at in
        let value : value_of parts l ≡ link_offset parts l = jump_value l.reloc.kind (link_offset parts l) (full parts l) (jumps offset) in
        let place : link_offset parts l ≡ (sum_of parts l + 2 ^ 32 - a) % 2 ^ 32 = ap (λ (k : ℕ). (sum_of parts l + 2 ^ 32 - k) % 2 ^ 32) (of_point.place ∙ sym from) in
        ap (λ (i : Instr). away (a + 4) (offset_of i)) now
        ∙ (ap (λ (z : _). away (a + 4) z) (linked_offset l.reloc.kind of_point.kind.long (value_of parts l) x.instr offset of_point.kind.fits)
        ∙ linked_away a (sum_of parts l) (value_of parts l) below (small parts) (value ∙ place))
      where
        small : (parts : _) → sum_of parts l < 2 ^ 32
        small parts = omega arith

    -- and the hardened one to the place of the unit there
    goes_linked : has_offset A.point.instr ≡ true → Stays chart (linked_target (all_placed (plains pairs) at) l) link.target
    goes_linked offset =
        elim (given.reloc l il file named) [
          | branch jump goes ↦ goes_there F c K pairs at chart is (linked_target (all_placed (plains pairs) at) l) link.target goes
          | number word leads e ↦ absurd (both_ways (is_jump l.reloc.kind) word (jumps offset))
          | address b d word leads e goes g ↦ absurd (both_ways (is_jump l.reloc.kind) word (jumps offset))
        ]

    -- its relocation and symbol are those of the place
    same_link_parts : (k : ℕ) (q : Reloc) (s : Symbol) → A.point.reloc ≡ Some k → slice_get o.relocs k ≡ Some q → slice_get o.symbols q.symbol ≡ Some s → (q ≡ l.reloc) × (s ≡ l.symbol)
    same_link_parts k q s at_k there_k names =
        let index : k ≡ l.number = same_Some k l.number (sym at_k ∙ named) in
        let reloc : q ≡ l.reloc = same_Some q l.reloc (sym there_k ∙ (ap (λ (n : ℕ). slice_get o.relocs n) index ∙ (ap (λ (z : ObjectParts). slice_get z.relocs l.number) (sym of_point.object) ∙ il.reloc))) in
        (reloc, same_Some s l.symbol (sym names ∙ (ap (λ (z : Reloc). slice_get o.symbols z.symbol) reloc ∙ (ap (λ (z : ObjectParts). slice_get z.symbols l.reloc.symbol) (sym of_point.object) ∙ il.symbol))))

  -- a point of the own section, to which the instruction leads by its own offset
  record Led (t : ℕ) : Type 0 where
    pub point : Point
    pub leads : target_at a p ≡ start + t
    pub there : chart (start + t) ≡ Some point
    pub placed : link.target ≡ point.place

  led_own : (t m : ℕ) → A.point.reloc ≡ None → has_offset A.point.instr ≡ true → t ≡ own_target A.point.offset A.point.instr → IsFlowPointAt f x.section t m → Led t
  led_own t m none offset e y =
      let z = point_there F c K pairs at chart is A.file m x.section t A.pairing A.is_pair y in
      let lies = (points_lie_low F c K pairs at plain hard chart images is (start + t) z.0 z.1).point in
      let here : a ≡ start + x.offset = from ∙ ap (λ (k : ℕ). k + x.offset) (sym start_here) in
      let d = decodes o f flow A.number x A.is_point in
      let target : away (a + 4) (offset_of x.instr) ≡ start + t = own_leads a start x.offset t x.instr (decode_near d.place d.first d.second x.instr d.is) here e (omega (arith, lies)) in
      let unit : link.target ≡ start_at (hards pairs) at A.file x.section + z.2.unit.start =
      given.may.target m z.2.unit none offset (record { point = y.point; there = y.there; section = y.section; offset = y.offset ∙ e }) z.2.placed in
      record {
        point = z.0;
        leads = ap (λ (i : Instr). away (a + 4) (offset_of i)) same ∙ target;
        there = z.1;
        placed = unit ∙ (ap (λ (j : ℕ). start_at (hards pairs) at A.file j + z.2.unit.start) (sym y.section) ∙ sym z.2.place);
      }
    where
      same : p.instr ≡ A.point.instr
      same = elim (how) [ as_is free now mark ↦ now | by_link l il file named now mark ↦ absurd (none-some l.number (sym none ∙ named)) ]

  -- a branch to a point of its own section
  pub near_meets : (m : ℕ) (r : Point) → A.point.exit ≡ exits.Branch m → chart (address_in (plains pairs) at A.file A.pairing.pair.flow m) ≡ Some r
      → (target_at a p ≡ address_in (plains pairs) at A.file A.pairing.pair.flow m) × (link.target ≡ r.place)
  near_meets m r e there = let t = target_there o f flow A.number x A.is_point m e in by_aim t.0 t.2 t.1 refl refl
    where
      offset : has_offset x.instr ≡ true
      offset = about.leads m e

      to : (t : ℕ) → IsFlowPointAt f x.section t m → address_in (plains pairs) at A.file f m ≡ start + t
      to t y = address_there (plains pairs) at A.file m x.section t f y

      by_own : (t : ℕ) → IsFlowPointAt f x.section t m → A.point.reloc ≡ None → t ≡ own_target x.offset x.instr → (target_at a p ≡ address_in (plains pairs) at A.file f m) × (link.target ≡ r.place)
      by_own t y none same =
          let led = led_own t m none offset same y in
          let one : led.point ≡ r = one_point chart (start + t) led.point r led.there (ap chart (sym (to t y)) ∙ there) in
          (led.leads ∙ sym (to t y), led.placed ∙ ap (λ (z : Point). z.place) one)

      linked_to : (l : Link) (il : IsLink (plains pairs) at l) (file : l.file ≡ A.file) (named : A.point.reloc ≡ Some l.number) (t : ℕ) → IsFlowPointAt f x.section t m → IsNearBy x.section l.symbol (target_of l.object l.reloc l.symbol) t
          → linked_target (all_placed (plains pairs) at) l ≡ start + t
      linked_to l il file named t y by =
          let pl = of_point l il file named in
          let own = local_means (plains pairs) at l il by.bind (ap (λ (h : Home). is_defined h) by.home) in
          let m = meant_there F c K pairs at plain hard images chart is l il (branch_leads F c K pairs at plain hard images chart is l il (jumps l il file named offset)) in
          let section : m.section ≡ x.section = same_section m.section x.section (sym (own_home F c K pairs at plain hard images chart is l il m own) ∙ by.home) in
          let object : m.pairing.plain ≡ o = own_object F c K pairs at plain hard images chart is l il m own ∙ pl.object in
          let is_there : slice_get o.sections x.section ≡ Some m.part.section = subst (λ (j : ℕ). slice_get o.sections j ≡ Some m.part.section) section (subst (λ (z : ObjectParts). slice_get z.sections m.section ≡ Some m.part.section) object m.here.section) in
          let less : t < m.part.section.size = point_inside o f flow x.section t _ y m.part.section is_there in
          let starts : m.part.start ≡ start =
          sym (start_is (plains pairs) at l.meant.object m.section m.pairing.plain m.part m.here)
          ∙ (ap (λ (i : ℕ). start_at (plains pairs) at i m.section) (own.file ∙ file) ∙ ap (λ (j : ℕ). start_at (plains pairs) at A.file j) section) in
          own_branch F c K pairs at plain hard images chart is l il m own (subst (λ (n : ℕ). n < m.part.section.size) by.same less)
          ∙ (ap (λ (n : ℕ). m.part.start + n) (sym by.same) ∙ ap (λ (n : ℕ). n + t) starts)
        where
          same_section : (j k : ℕ) → homes.Section j ≡ homes.Section k → j ≡ k
          same_section j k e = cc

      by_how : (k : ℕ) (q : Reloc) (s : Symbol) → A.point.reloc ≡ Some k → slice_get o.relocs k ≡ Some q → slice_get o.symbols q.symbol ≡ Some s → (t : ℕ) → IsFlowPointAt f x.section t m → IsNearBy x.section s (target_of o q s) t
          → HowLinked (plains pairs) at A.file A.point.instr A.point.reloc p.instr A.is.mark → (target_at a p ≡ address_in (plains pairs) at A.file f m) × (link.target ≡ r.place)
      by_how k q s at_k there_k names t y by (as_is free now mark) = absurd (none-some k (sym free ∙ at_k))
      by_how k q s at_k there_k names t y by (by_link l il file named now mark) =
          let same = same_link_parts l il file named k q s at_k there_k names in
          let pl = of_point l il file named in
          let ours : IsNearBy x.section l.symbol (target_of l.object l.reloc l.symbol) t =
          subst (λ (z : ObjectParts). IsNearBy x.section l.symbol (target_of z l.reloc l.symbol) t) (sym pl.object)
          (subst (λ (z : Symbol). IsNearBy x.section z (target_of o l.reloc z) t) same.1 (subst (λ (z : Reloc). IsNearBy x.section s (target_of o z s) t) same.0 by)) in
          let target = linked_to l il file named t y ours in
          let stays = goes_linked l il file named offset in
          let one : stays.0 ≡ r = one_point chart (start + t) stays.0 r (ap chart (sym target) ∙ stays.1) (ap chart (sym (to t y)) ∙ there) in
          (target_linked l il file named offset now ∙ (target ∙ sym (to t y)), stays.2 ∙ ap (λ (z : Point). z.place) one)

      by_aim : (t : ℕ) → IsFlowPointAt f x.section t m → {b : _} → IsAim o x.section x.offset x.instr b → is_near b ≡ true → offset_in b ≡ Some t → (target_at a p ≡ address_in (plains pairs) at A.file f m) × (link.target ≡ r.place)
      by_aim t y (by_offset none same) is_so is_at = by_own t y (part.reloc ∙ none) (same_Some t (own_target x.offset x.instr) (sym is_at ∙ ap offset_in same))
      by_aim t y (by_symbol k q s at_k right_k names same) is_so is_at =
          by_how k q s (part.reloc ∙ at_k) right_k.is_there names t y (near_by x.section s (target_of o q s) t (sym (ap is_near same) ∙ is_so) (sym (ap offset_in same) ∙ is_at)) how
      by_aim t y (not_right k at_k none same) is_so is_at = absurd (both_ways _ (ap is_near same) is_so)

  -- where the aim is near, what leaves or calls is a call
  calls_near : (A.point.exit ≡ exits.Transfer) ⊎ (A.point.exit ≡ exits.Call) → {b : _} → IsAim o x.section x.offset x.instr b → is_near b ≡ true → is_branch x.instr ≡ false
  calls_near leaves_it {b} aim is_so = go about.exit
    where
      go : Exits o x → is_branch x.instr ≡ false
      go (by_kind un) = un
      go (to_near q turns e) = absurd (never_near x.exit q leaves_it e)
      go (to_far turns never) = absurd (both_ways (is_near b) (never b aim) is_so)

  -- a branch that leaves its section, or a call
  pub far_meets : has_offset A.point.instr ≡ true → (A.point.exit ≡ exits.Transfer) ⊎ (A.point.exit ≡ exits.Call) → (r : Point) × (chart (target_at a p) ≡ Some r) × (r.entry ≡ true) × (link.target ≡ r.place)
  far_meets offset leaves_it = by_how how
    where
      by_own : A.point.reloc ≡ None → (r : Point) × (chart (target_at a p) ≡ Some r) × (r.entry ≡ true) × (link.target ≡ r.place)
      by_own none =
          let free : reloc_at o x.section x.offset ≡ None = sym part.reloc ∙ none in
          let t : ℕ = own_target x.offset x.instr in
          let entry = about.own_call free offset (calls_near leaves_it (by_offset free refl) refl) in
          let y = entry_point o f flow x.section t entry in
          let k = place_of f.points y.0 y.1 in
          let led = led_own t k.0 none offset refl (record { point = y.0; there = k.1; section = y.2; offset = y.3 }) in
          let e = entry_there F c K pairs at chart is A.file x.section t A.pairing A.is_pair entry in
          let one : led.point ≡ e.0 = one_point chart (start + t) led.point e.0 led.there e.1 in
          (led.point, ap chart led.leads ∙ led.there, ap (λ (z : Point). z.entry) one ∙ e.2, led.placed)

      -- an entry of the own section
      entry_here : (l : Link) (il : IsLink (plains pairs) at l) (file : l.file ≡ A.file) (named : A.point.reloc ≡ Some l.number) → l.symbol.home ≡ homes.Section l.reloc.section
          → IsEntry l.object l.reloc.section (target_of l.object l.reloc l.symbol)
      entry_here l il file named home =
          let pl = of_point l il file named in
          let there : reloc_at o x.section x.offset ≡ Some l.number = sym part.reloc ∙ named in
          let names : slice_get o.symbols l.reloc.symbol ≡ Some l.symbol = ap (λ (z : ObjectParts). slice_get z.symbols l.reloc.symbol) (sym pl.object) ∙ il.symbol in
          let own : l.symbol.home ≡ homes.Section x.section = home ∙ ap (λ (j : ℕ). homes.Section j) pl.kind.section in
          let entry : IsEntry o x.section (target_of o l.reloc l.symbol) =
          about.by_own_symbol l.number l.reloc l.symbol there pl.right names own offset
          (λ t. calls_near leaves_it (by_symbol l.number l.reloc l.symbol there pl.right names refl) (near_so x.section l.symbol (target_of o l.reloc l.symbol) own t)) in
          subst (λ (j : ℕ). IsEntry l.object j (target_of l.object l.reloc l.symbol)) (sym pl.kind.section) (subst (λ (z : ObjectParts). IsEntry z x.section (target_of z l.reloc l.symbol)) (sym pl.object) entry)

      by_how : HowLinked (plains pairs) at A.file A.point.instr A.point.reloc p.instr A.is.mark → (r : Point) × (chart (target_at a p) ≡ Some r) × (r.entry ≡ true) × (link.target ≡ r.place)
      by_how (as_is free now mark) = by_own free
      by_how (by_link l il file named now mark) =
          let enters = branch_enters F c K pairs at plain hard images chart is l il (jumps l il file named offset) (λ own home. entry_here l il file named home) in
          let stays = goes_linked l il file named offset in
          let one : stays.0 ≡ enters.0 = one_point chart (linked_target (all_placed (plains pairs) at) l) stays.0 enters.0 stays.1 enters.1 in
          (stays.0, ap chart (target_linked l il file named offset now) ∙ stays.1, ap (λ (z : Point). z.entry) one ∙ enters.2, stays.2)

  -- CBZ and CBNZ lead to points of their sections
  pub zero_meets : (b : ZeroBranchFields) → A.point.instr ≡ instr.ZeroBranch b → leaves A.point.exit ≡ false
  zero_meets b same = go about.exit
    where
      by_how : HowLinked (plains pairs) at A.file A.point.instr A.point.reloc p.instr A.is.mark → ((b : _) → IsAim o x.section x.offset x.instr b → is_near b ≡ false) → ⊥
      by_how (as_is free now mark) never = both_ways true (never _ (by_offset (sym part.reloc ∙ free) refl)) refl
      by_how (by_link l il file named now mark) never =
          let kind = (of_point l il file named).kind in
          zero_has_none l.reloc.kind kind.long b (subst (λ (i : Instr). fits_kind l.reloc.kind kind.long i ≡ true) same kind.fits)

      go : Exits o x → leaves x.exit ≡ false
      go (by_kind un) = absurd (both_ways (is_branch x.instr) un (ap is_branch same))
      go (to_near q is_so e) = ap leaves e
      go (to_far is_so never) = absurd (by_how how never)
