-- The units of a chart of lists work where they stand in the hardened image, linked.
use Rattle.std.specs.Prelude.{◌≡◌, ℕ, ◌+◌, ◌&&◌, Option, Some, None, refl}
use Rattle.std.proofs.Common.{arith, ap, sym, ◌∙◌, subst}
use Rattle.thumb_instr.specs.declared.instructions.Instr.{Instr}
use Rattle.thumb_instr.specs.declared.instructions.Instr.TheVariants.{Half}
use Rattle.thumb_instr.specs.declared.conditions.Cond.{Cond}
use Rattle.thumb_instr.specs.Numbers.{renumbered}
use Rattle.thumb_table.specs.States.{Core}
use Rattle.thumb_table.specs.Conditions.{holds}
use Rattle.seq_core.specs.Does.{Task, Works}
use Rattle.seq_core.specs.Meanings.{Ends, meant}
use Rattle.sim_charts.specs.Charts as charts
use Rattle.sim_charts.specs.Charts.{unit_of}
use Rattle.sim_flows.proofs.Numbers.{same_tests}
use Rattle.sim_steps.proofs.Units.{numbers_mean}
use Rattle.sim_relation.specs.Doing.{with_number, ends_at, linked_effect}
use Rattle.sim_relation.specs.Charted.{Known, charted, KeepsOut}
use Rattle.sim_relation.proofs.ChartedWorks.{pairs_work}
use Rattle.sim_objects.specs.Lists.{hards}
use Rattle.sim_objects.specs.Charts.{start_at}
use Rattle.sim_objects.specs.Working.{number_of, UnitsWork}
use Rattle.sim_objects.proofs.Parts.{start_is, in_hard, done_is, hard_low, plain_cond}
use Rattle.sim_objects.proofs.Points.{flow_point}

-- what a linked instruction means
linked_means : (r : Option ℕ) (n : ℕ) (i : Instr) (e : Ends) (y : Core) → meant (with_number r n i) e y ≡ meant (renumbered (number_of r n i) i) e y
linked_means (Some k) n (Half i) e y = refl
linked_means None n (Half i) e y = refl
linked_means (Some k) n i e y = sym (numbers_mean i n e y refl)
linked_means None n i e y = sym (numbers_mean i n e y refl)

-- tasks of one meaning are one
same_task : (t u : Task) → t.place ≡ u.place → t.end ≡ u.end → t.length ≡ u.length → ((y : Core) → t.taken y ≡ u.taken y) → ((y : Core) → t.effect y ≡ u.effect y) → ((k : ℕ) → t.loses k ≡ u.loses k) → t ≡ u
same_task t u a b c d e f = λ i. record { place = a i; end = b i; length = c i; taken = λ y. d y i; effect = λ y. e y i; loses = λ k. f k i }

pub units_work : UnitsWork
units_work F c K pairs at plain hard images i n q x p is_pair there is link may stands may_skip keeps =
    let done = done_is F c K pairs at plain hard images i n q x is_pair there is.unit is.sequence is.placed is.done in
    let h = in_hard F c K pairs at plain hard images i n q x is_pair there p.it is.unit.start is.state done.inside in
    let from : start_at (hards pairs) at i x.section ≡ h.part.start = start_is (hards pairs) at i x.section q.hard h.part h.here in
    let low = hard_low F c K pairs at plain hard images i n q x is_pair there h in
    let size = h.size in
    let fours = low.0 in
    let high = low.1 in
    let known : Known = record { it = p.it; way = p.way; next = p.next; entry = p.entry; live = p.live } in
    let out : KeepsOut (q.may_skip x) may_skip (start_at (hards pairs) at i x.section + is.unit.start) (start_at (hards pairs) at i x.section + is.unit.end) =
    subst (λ (b : ℕ). KeepsOut (q.may_skip x) may_skip (start_at (hards pairs) at i x.section + is.unit.start) b) is.end (subst (λ (a : ℕ). KeepsOut (q.may_skip x) may_skip a p.end) is.place keeps) in
    let w =
    pairs_work q.plain q.hard F c K q.may_skip q.pair n x is.unit is.sequence there is.placed is.done hard.code (start_at (hards pairs) at i x.section) link (omega (arith, from, fours))
    (omega (arith, from, size, high)) may stands known (sym (plain_cond q.plain q.pair.flow q.pair.accepted.flow n p.it x there is.state)) may_skip out in
    let number = flow_point F c K pairs at i n q x p there is in
    let same =
    same_task (unit_of (charted (start_at (hards pairs) at i x.section) x is.unit is.sequence known) (linked_effect (start_at (hards pairs) at i x.section) link x is.unit))
    (unit_of p (meant (renumbered (number_of x.reloc link.number x.instr) p.instr) (ends_at (start_at (hards pairs) at i x.section) link is.unit))) (sym is.place) (sym is.end) (sym is.length)
    (λ y. ap (λ (d : Cond). holds (charts.cond_of p) y && holds d y) (sym (same_tests p.instr x.instr (number.instr 0))))
    (λ y. linked_means x.reloc link.number x.instr (ends_at (start_at (hards pairs) at i x.section) link is.unit) y
    ∙ ap (λ (z : Instr). meant z (ends_at (start_at (hards pairs) at i x.section) link is.unit) y) (sym (number.instr (number_of x.reloc link.number x.instr))))
    (λ k. sym (is.loses k)) in
    let short = w.1 in
    let l = is.length in
    (subst (Works hard.code c may_skip) same w.0, omega (arith, short, l))
