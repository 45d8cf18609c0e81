-- Images whose points meet what is asked are linked.
use Rattle.std.proofs.Common.{◌≡◌, ◌≢◌, ◌+◌, Some, None, refl, arith}
use Rattle.thumb_instr.specs.Blocks.{place_in_block}
use Rattle.thumb_instr.specs.Formed.{IsFormed}
use Rattle.thumb_instr.proofs.Decoded.{decode_formed}
use Rattle.thumb_instr.specs.Numbers.{renumbered}
use Rattle.thumb_table.specs.Schedules.{exit}
use Rattle.seq_core.specs.Meanings.{meant}
use Rattle.sim_charts.specs.Charts.{Chart}
use Rattle.sim_charts.specs.Addresses.{IsProperChart}
use Rattle.sim_steps.specs.Met.{MetImagesAreLinked}
use Rattle.sim_steps.proofs.Straight.{ordinary_steps}

no_point : (chart : Chart) → IsProperChart chart → chart exit ≡ None
no_point chart proper = elim (chart exit) as (λ o. chart exit ≡ o → o ≡ None) [
  | None ↦ λ e. refl
  | Some p ↦ λ e. let l = proper.low exit p e in absurd (omega (arith, l.0))
] refl

pub met_images_are_linked : MetImagesAreLinked
met_images_are_linked chart plain hard c K F may_skip m = record {
  few = m.few;
  units = λ a p there.
      let u = m.units a p there in
      let formed : IsFormed p.instr = decode_formed (place_in_block p.it) u.stands.fetched.first u.stands.fetched.second p.instr u.stands.means in
      record {
        effect = meant (renumbered u.number p.instr) u.ends;
        stands = u.stands;
        goes = u.goes;
        lives = u.lives;
        spares = u.spares;
        twin = ordinary_steps chart plain K a u.number p u.ends m.proper m.few there formed u.meets;
        works = u.works;
        short = u.short;
      };
  outside = m.outside;
  hard_outside = m.hard_outside;
  no_point = no_point chart m.proper;
  low = λ a p there.
      let l = m.proper.low a p there in
      let behind : a + p.width ≢ exit = λ e. absurd (omega (arith, l.0, e)) in
      let at : p.place ≢ exit = λ e. absurd (omega (arith, l.1, e)) in
      (behind, at);
}
