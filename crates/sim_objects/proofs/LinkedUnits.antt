-- Each unit of a chart of lists stands in the hardened image, with what linking puts there.
use Rattle.std.specs.Prelude.{◌≡◌, ◌<◌, ℕ, ◌+◌, ◌^◌, Bool, true, false, cond, List, Option, Some, None, Ok, Err, unwrap_or, slice_get, Contains, refl}
use Rattle.std.specs.List.{zip}
use Rattle.std.proofs.Common.{arith, ap, sym, ◌∙◌, subst}
use Rattle.std.proofs.lemmas.Bool.{both_ways, le-leb}
use Rattle.std.proofs.lemmas.List.{length-map}
use Rattle.std.proofs.lemmas.Option.{none-some, same_Some, slice_get_within}
use Rattle.elf_model.specs.declared.objects.Reloc.{Reloc}
use Rattle.elf_model.specs.Fields.{word_at}
use Rattle.elf_model.specs.Ranges.{length_at, first}
use Rattle.elf_model.proofs.Elements.{contains_at, element_at}
use Rattle.mark_word.specs.declared.marks.Mark.{Mark}
use Rattle.mark_word.specs.declared.marks.Mark.TheVariants.{Plain}
use Rattle.thumb_instr.specs.declared.refusals.BadInstr.TheVariants.{Unknown}
use Rattle.thumb_table.specs.declared.placements.Placement.{Placement}
use Rattle.thumb_table.specs.Parts.{Image}
use Rattle.thumb_table.specs.Links.{Link, IsLink}
use Rattle.reloc_places.specs.Starts.{bytes_of, decoded_at, instr_at}
use Rattle.reloc_places.specs.Relocations.{is_word, is_jump, reloc_at}
use Rattle.flow_recover.specs.declared.flows.Point.{Point as FlowPoint}
use Rattle.flow_recover.specs.declared.flows.PoolWord.{PoolWord}
use Rattle.flow_recover.specs.Aims.{own_target, has_offset}
use Rattle.flow_recover.specs.Points.{IsPointAt as IsFlowPointAt}
use Rattle.flow_recover.specs.WholeFlows.{place_of_word}
use Rattle.hardened_form.specs.Places.{UnitPlace}
use Rattle.hardened_form.specs.Standing.{units, new_place}
use Rattle.hardened_form.specs.Relocs.{IsWordOf, in_pool, in_island}
use Rattle.sim_images.proofs.Sequences.{one_stands}
use Rattle.sim_images.proofs.StandingLinked.{same_link}
use Rattle.sim_answers.specs.Units.{code_end}
use Rattle.sim_answers.specs.Forms.{DoAnswer}
use Rattle.sim_answers.proofs.Placed.{word_no_jump}
use Rattle.sim_answers.proofs.RelocsStand.{of_word_kind}
use Rattle.sim_answers.proofs.DataAnswered.{word_listed}
use Rattle.sim_answers.proofs.UnitsStand.{units_stand as code_stands}
use Rattle.sim_relation.specs.Sequences.{PlacedStep, Sequence}
use Rattle.sim_relation.specs.Standing.{Linking, IsLinked, linked_mark, StepStands, WordStands, Stands}
use Rattle.sim_objects.specs.Lists.{Pairing, plains, hards, HaveImages}
use Rattle.sim_objects.specs.Charts.{start_at}
use Rattle.sim_objects.specs.UnitLinks.{moved_in, IsUnitLink}
use Rattle.sim_objects.specs.StandingUnits.{UnitsStand}
use Rattle.sim_objects.proofs.Parts.{start_is, in_hard, done_is, hard_low, HardPart}
use Rattle.sim_objects.proofs.Walked.{StepIn, step_in, unit_ends}
use Rattle.sim_objects.proofs.Kept.{get_zip, pairs_answer}
use Rattle.sim_objects.proofs.Puts.{Puts, number, address, branch, put_for, link_of, puts}
use Rattle.sim_objects.proofs.Twins.{form, step_twin, word_twin}
use Rattle.sim_objects.proofs.Loading.{loads_of, no_relocation}
use Rattle.sim_objects.proofs.StepsStand.{put_there}
use Rattle.sim_objects.proofs.WordsStand.{bare_word, linked_word}

module _ (F c K : ℕ) (pairs : List (Pairing F c K)) (at : Placement) (plain hard : Image) (images : HaveImages F c K pairs at plain hard)
    (do_answer : DoAnswer (plains pairs) (hards pairs) (moved_in pairs)) where
  -- what is no branch may lead anywhere
  retarget : (l : Link) (link : Linking) (t : ℕ) → is_jump l.reloc.kind ≡ false → Puts F c K pairs at plain hard images do_answer l link → Puts F c K pairs at plain hard images do_answer l (record link { target = t })
  retarget l link t n (number j out m mark) = number j out m mark
  retarget l link t n (address a b j code f g m mark) = address a b j code f g m mark
  retarget l link t n (branch j g mark) = absurd (both_ways (is_jump l.reloc.kind) n j)

  module _ (i n : ℕ) (q : Pairing F c K) (is_pair : slice_get pairs i ≡ Some q) (x : FlowPoint) (is_point : slice_get q.pair.flow.points n ≡ Some x) where
    listed : Contains q.pair.flow.points x
    listed = contains_at q.pair.flow.points n x is_point

    -- what a link gives of the point's relocation and of its word's
    pub record Fits (link : Linking) : Type 0 where
      pub reloc : (l : Link) → IsLink (plains pairs) at l → l.file ≡ i → x.reloc ≡ Some l.number → Puts F c K pairs at plain hard images do_answer l link
      pub word : (m : ℕ) (w : PoolWord) (l : Link) → x.word ≡ Some m → slice_get q.pair.flow.words m ≡ Some w → IsLink (plains pairs) at l → l.file ≡ i → w.reloc ≡ Some l.number
          → Puts F c K pairs at plain hard images do_answer l link
      pub own : (m : ℕ) (w : PoolWord) → x.word ≡ Some m → slice_get q.pair.flow.words m ≡ Some w → w.reloc ≡ None → (link.number ≡ word_at (bytes_of q.plain w.section) w.offset) × (link.mark ≡ Plain)
      pub target : (m : ℕ) (v : UnitPlace) → x.reloc ≡ None → has_offset x.instr ≡ true → IsFlowPointAt q.pair.flow x.section (own_target x.offset x.instr) m → slice_get q.pair.certificate.places.units m ≡ Some v
          → link.target ≡ start_at (hards pairs) at i x.section + v.start

    -- where the point's own branch leads
    own_place : ℕ
    own_place = start_at (hards pairs) at i x.section + unwrap_or (new_place q.pair.form.lists.items x.section (own_target x.offset x.instr)) 0

    leads : (m : ℕ) (v : UnitPlace) → IsFlowPointAt q.pair.flow x.section (own_target x.offset x.instr) m → slice_get q.pair.certificate.places.units m ≡ Some v
        → own_place ≡ start_at (hards pairs) at i x.section + v.start
    unfolding own_place
    leads m v to unit =
        let placed = (code_stands q.plain q.hard q.pair.flow q.pair.certificate.places q.pair.certificate.carriers (form F c K pairs at plain hard images do_answer i q is_pair)).points to.point v
        (contains_at (units q.pair.flow q.pair.certificate.places) m (to.point, v) (get_zip q.pair.flow.points q.pair.certificate.places.units m to.point v to.there unit)) in
        let here : new_place q.pair.form.lists.items x.section (own_target x.offset x.instr) ≡ Some v.start =
        ap (λ (j : ℕ). new_place q.pair.form.lists.items j (own_target x.offset x.instr)) (sym to.section) ∙ (ap (λ (a : ℕ). new_place q.pair.form.lists.items to.point.section a) (sym to.offset) ∙ placed) in
        ap (λ (y : Option ℕ). start_at (hards pairs) at i x.section + unwrap_or y 0) here

    -- of a point with a relocation
    with_reloc : (k : ℕ) → x.reloc ≡ Some k → (link : Linking) × Fits link
    with_reloc k reloc =
        let t = (step_twin F c K pairs at plain hard images do_answer i q is_pair n k x is_point reloc).1 in
        let link = link_of F c K pairs at plain hard images do_answer t.new in (
          link,
          record {
            reloc = λ l is file named.
                let one : t.old ≡ l = same_link (plains pairs) at t.old l t.is_old is (t.old_file ∙ sym file) (t.old_number ∙ same_Some k l.number (sym reloc ∙ named)) in
                subst (λ (z : Link). Puts F c K pairs at plain hard images do_answer z link) one (puts F c K pairs at plain hard images do_answer t.old t.new t.sense t.value);
            word = λ m w l loads. absurd (no_relocation q.plain q.pair.flow q.pair.accepted.flow x listed k m reloc loads);
            own = λ m w loads. absurd (no_relocation q.plain q.pair.flow q.pair.accepted.flow x listed k m reloc loads);
            target = λ m v none. absurd (none-some k (sym none ∙ reloc));
          },
        )

    -- of one without, for what its word comes to
    without : x.reloc ≡ None → (value : ℕ) (mark : Mark)
        → ((m : ℕ) (w : PoolWord) (l : Link) → x.word ≡ Some m → slice_get q.pair.flow.words m ≡ Some w → IsLink (plains pairs) at l → l.file ≡ i → w.reloc ≡ Some l.number
        → Puts F c K pairs at plain hard images do_answer l (record { target = own_place; number = value; mark = mark }))
        → ((m : ℕ) (w : PoolWord) → x.word ≡ Some m → slice_get q.pair.flow.words m ≡ Some w → w.reloc ≡ None → (value ≡ word_at (bytes_of q.plain w.section) w.offset) × (mark ≡ Plain)) → (link : Linking) × Fits link
    without none value mark word own = (
      record { target = own_place; number = value; mark = mark },
      record {
        reloc = λ l is file named. absurd (none-some l.number (sym none ∙ named));
        word = word;
        own = own;
        target = λ m v free has to unit. leads m v to unit;
      },
    )

    -- where the pool has a word
    pooled : (m : ℕ) (w : PoolWord) → slice_get q.pair.flow.words m ≡ Some w → (y : ℕ) × (slice_get q.pair.certificate.places.words m ≡ Some y)
    pooled m w there =
        let short = slice_get_within q.pair.flow.words m w there in
        let count = q.pair.form.tables.lists.items.pool ∙ length-map q.pair.flow.words place_of_word in
        element_at q.pair.certificate.places.words m (omega (arith, short, count))

    with_word : x.reloc ≡ None → (m : ℕ) → x.word ≡ Some m → (w : PoolWord) → slice_get q.pair.flow.words m ≡ Some w → (r : Option ℕ) → w.reloc ≡ r → (link : Linking) × Fits link
    with_word none m loads w there None bare =
        without none (word_at (bytes_of q.plain w.section) w.offset) Plain
        (λ j v l named at_v is file reloc. absurd (none-some l.number (sym bare ∙ (ap (λ (z : PoolWord). z.reloc) (one j v named at_v) ∙ reloc))))
        (λ j v named at_v free. (ap (λ (z : PoolWord). word_at (bytes_of q.plain z.section) z.offset) (one j v named at_v), refl))
      where
        one : (j : ℕ) (v : PoolWord) → x.word ≡ Some j → slice_get q.pair.flow.words j ≡ Some v → w ≡ v
        one j v named at_v = same_Some w v (sym there ∙ (ap (slice_get q.pair.flow.words) (same_Some m j (sym loads ∙ named)) ∙ at_v))
    with_word none m loads w there (Some k) reloc =
        let f = q.pair.flow in
        let p = q.pair.certificate.places in
        let y = pooled m w there in
        let is_word_of : IsWordOf f p w y.0 = in_pool y.0 (contains_at (zip f.words p.words) m (w, y.0) (get_zip f.words p.words m w y.0 there y.1)) in
        let tw = word_twin F c K pairs at plain hard images do_answer i q is_pair w y.0 k is_word_of reloc in
        let t = tw.6 in
        let kind : is_word t.new.reloc.kind ≡ true = ap (λ (z : Reloc). is_word z.kind) t.new_reloc ∙ (ap is_word tw.5
        ∙ of_word_kind q.plain q.hard f p q.pair.certificate.carriers (form F c K pairs at plain hard images do_answer i q is_pair) k tw.1
        w (word_listed q.plain q.hard f p q.pair.certificate.carriers (form F c K pairs at plain hard images do_answer i q is_pair) w y.0 is_word_of) reloc tw.2) in
        let jump : is_jump t.old.reloc.kind ≡ false = sym t.sense.jump ∙ word_no_jump t.new.reloc.kind kind in
        let link = link_of F c K pairs at plain hard images do_answer t.new in
        let put = retarget t.old link own_place jump (puts F c K pairs at plain hard images do_answer t.old t.new t.sense t.value) in
        without none link.number link.mark
        (λ j v l named at_v is file linked.
        let same : w ≡ v = same_Some w v (sym there ∙ (ap (slice_get q.pair.flow.words) (same_Some m j (sym loads ∙ named)) ∙ at_v)) in
        let one : t.old ≡ l = same_link (plains pairs) at t.old l t.is_old is (t.old_file ∙ sym file) (t.old_number ∙ same_Some k l.number (sym reloc ∙ (ap (λ (z : PoolWord). z.reloc) same ∙ linked))) in
        subst (λ (z : Link). Puts F c K pairs at plain hard images do_answer z (record { target = own_place; number = link.number; mark = link.mark })) one put)
        (λ j v named at_v free.
        let same : w ≡ v = same_Some w v (sym there ∙ (ap (slice_get q.pair.flow.words) (same_Some m j (sym loads ∙ named)) ∙ at_v)) in
        absurd (none-some k (sym free ∙ (ap (λ (z : PoolWord). z.reloc) (sym same) ∙ reloc))))

    pub some_link : (link : Linking) × Fits link
    some_link = go x.reloc refl x.word refl
      where
        go : (r : Option ℕ) → x.reloc ≡ r → (m : Option ℕ) → x.word ≡ m → (link : Linking) × Fits link
        go (Some k) e m g = with_reloc k e
        go None e (Some m) g = let l = loads_of q.plain q.pair.flow q.pair.accepted.flow x listed m g in with_word e m g l.word l.there l.word.reloc refl
        go None e None g = without e 0 Plain (λ m w l named. absurd (none-some m (sym g ∙ named))) (λ m w named. absurd (none-some m (sym g ∙ named)))

    pub unit_link : (link : Linking) → Fits link → IsUnitLink F c K pairs at i q x link
    unit_link link fits = record {
      reloc = λ l is file named. put_for F c K pairs at plain hard images do_answer l link (fits.reloc l is file named);
      word = λ m w l named there is file reloc. put_for F c K pairs at plain hard images do_answer l link (fits.word m w l named there is file reloc);
      may = record { word = λ m w named there free. (fits.own m w named there free).0; target = fits.target };
    }

    -- the unit and its sequence
    module _ (u : UnitPlace) (s : Sequence) (placed : slice_get q.pair.certificate.places.units n ≡ Some u) (done : slice_get q.pair.certificate.sequences n ≡ Some s)
        (h : HardPart (hards pairs) at i q.hard x.section) (link : Linking) (fits : Fits link) where
      in_units : Contains (units q.pair.flow q.pair.certificate.places) (x, u)
      in_units = contains_at (units q.pair.flow q.pair.certificate.places) n (x, u) (get_zip q.pair.flow.points q.pair.certificate.places.units n x u is_point placed)

      step_stands : (t : PlacedStep) → Contains s.steps t → StepStands hard.code h.part.start link t
      step_stands t one =
          let d = done_is F c K pairs at plain hard images i n q x is_pair is_point u s placed done in
          let ends = unit_ends q.hard x.section u s d.stands in
          let behind = ends.behind in
          let si = step_in q.hard x.section u.start s.steps s.behind d.stands.steps u.start (code_end u) ends.behind (λ below. first below) t one in
          let wide = si.high in
          let whole : StepIn q.hard x.section u.start (code_end u) u.start (code_end u) t = record { low = si.low; high = omega (arith, wide, behind); is = si.is; start = si.start } in
          let e = (code_stands q.plain q.hard q.pair.flow q.pair.certificate.places q.pair.certificate.carriers (form F c K pairs at plain hard images do_answer i q is_pair)).starts x u t.at in_units si.start in
          let means : instr_at (bytes_of q.hard x.section) e.0 t.at 0 ≡ Ok t.instr =
          ap (λ (b : Bool). cond b (decoded_at (bytes_of q.hard x.section) t.at 0) (Err Unknown)) (le-leb (t.at + length_at (bytes_of q.hard x.section) t.at) e.0 e.2) ∙ si.is.instr in
          let os = one_stands (hards pairs) at hard images.forms images.hard_image i x.section q.hard h.part h.here t.at e.0 0 t.instr e.1 means in
          let room = hard_low F c K pairs at plain hard images i n q x is_pair is_point h in
          let high = room.1 in
          let within = ends.within in
          let size = h.size in
          let last = d.within in
          let low : h.part.start + t.at < 2 ^ 32 = omega (arith, high, wide, behind, within, size, last) in
          let pt = put_there F c K pairs at plain hard images do_answer i q is_pair x u in_units h.part h.here high link fits.reloc t whole low (reloc_at q.hard x.section t.at) os.now os.mark os.is refl in
          record {
            fetched = os.there.fetched;
            there = os.there.there;
            width = os.there.wide ∙ sym si.is.width;
            instr = os.now;
            means = os.there.means;
            linked = subst (λ (r : Option ℕ). IsLinked link (h.part.start + t.at) r t.instr os.now) (sym si.is.reloc) pt.linked;
            marked = os.there.marked ∙ (pt.marked ∙ ap (linked_mark link) (sym si.is.reloc));
          }

      word_stands : (m : ℕ) (w : PoolWord) → x.word ≡ Some m → slice_get q.pair.flow.words m ≡ Some w → (y : ℕ) → IsWordOf q.pair.flow q.pair.certificate.places w y → WordStands hard.code link (h.part.start + y)
      word_stands m w loads there y is_word_of = go w.reloc refl
        where
          go : (r : Option ℕ) → w.reloc ≡ r → WordStands hard.code link (h.part.start + y)
          go None e = let o = fits.own m w loads there e in bare_word F c K pairs at plain hard images do_answer i q is_pair x u in_units m w loads there y is_word_of h.part h.here link e o.0 o.1
          go (Some k) e = linked_word F c K pairs at plain hard images do_answer i q is_pair x u in_units m w loads there y is_word_of h.part h.here link k e (λ l is file named. fits.word m w l loads there is file named)

      pub stands_there : Stands hard.code h.part.start link q.pair.certificate.places x u s
      stands_there = record {
        steps = λ k t there. step_stands t (contains_at s.steps k t there);
        word = λ m y loads there.
            let l = loads_of q.plain q.pair.flow q.pair.accepted.flow x listed m loads in
            word_stands m l.word loads l.there y (in_pool y (contains_at (zip q.pair.flow.words q.pair.certificate.places.words) m (l.word, y) (get_zip q.pair.flow.words q.pair.certificate.places.words m l.word y l.there there)));
        island = λ y at_island.
            let d = done_is F c K pairs at plain hard images i n q x is_pair is_point u s placed done in
            let m = d.island y at_island in
            let l = loads_of q.plain q.pair.flow q.pair.accepted.flow x listed m.0 m.1 in
            word_stands m.0 l.word m.1 l.there y (in_island x u m.0 y in_units m.1 l.there at_island);
      }

pub units_stand : UnitsStand
units_stand F c K pairs at plain hard images a p is =
    let do_answer = pairs_answer F c K pairs at plain hard images in
    let q = is.pairing in
    let d = done_is F c K pairs at plain hard images is.file is.number q is.point is.is_pair is.is_point is.is.unit is.is.sequence is.is.placed is.is.done in
    let h = in_hard F c K pairs at plain hard images is.file is.number q is.point is.is_pair is.is_point p.it is.is.unit.start is.is.state d.inside in
    let l = some_link F c K pairs at plain hard images do_answer is.file is.number q is.is_pair is.point is.is_point in
    let stands = stands_there F c K pairs at plain hard images do_answer is.file is.number q is.is_pair is.point is.is_point is.is.unit is.is.sequence is.is.placed is.is.done h l.0 l.1 in
    record {
      link = l.0;
      puts = unit_link F c K pairs at plain hard images do_answer is.file is.number q is.is_pair is.point is.is_point l.0 l.1;
      stands = subst (λ (z : ℕ). Stands hard.code z l.0 q.pair.certificate.places is.point is.is.unit is.is.sequence) (sym (start_is (hards pairs) at is.file is.point.section q.hard h.part h.here)) stands;
    }
