-- The images of two lists are linked by their chart, for what is given of its points.
use Rattle.std.specs.Prelude.{◌≡◌, ℕ, Bool, List, Some}
use Rattle.std.proofs.Common.{arith}
use Rattle.thumb_table.specs.declared.placements.Placement.{Placement}
use Rattle.thumb_table.specs.Parts.{Image}
use Rattle.sim_charts.specs.Charts.{Chart, Point}
use Rattle.sim_charts.specs.Addresses.{IsProperChart}
use Rattle.sim_steps.specs.Met.{MetUnit}
use Rattle.sim_steps.proofs.Linking.{met_images_are_linked}
use Rattle.sim_relation.specs.Doing.{ends_at}
use Rattle.sim_objects.specs.Lists.{Pairing, plains, hards, HaveImages}
use Rattle.sim_objects.specs.Charts.{IsChartOf}
use Rattle.sim_objects.specs.Working.{number_of}
use Rattle.sim_objects.specs.Linking.{hard_start, AreLinkedUnits, ListsAreLinked}
use Rattle.sim_objects.proofs.Apart.{points_end_apart, points_lie_low}
use Rattle.sim_objects.proofs.Exits.{nothing_at_exit}
use Rattle.sim_objects.proofs.Points.{points_stand}
use Rattle.sim_objects.proofs.Living.{points_live, points_spare}
use Rattle.sim_objects.proofs.Working.{units_work}

module _ (F c K : ℕ) (pairs : List (Pairing F c K)) (at : Placement) (plain hard : Image) (chart : Chart) (may_skip : ℕ → Bool) (images : HaveImages F c K pairs at plain hard)
    (is : IsChartOf F c K pairs at chart) (given : AreLinkedUnits F c K pairs at plain hard chart may_skip) where
  proper : IsProperChart chart
  proper = record {
    even = given.even;
    low = λ a p there.
        let l = points_lie_low F c K pairs at plain hard chart images is a p there in
        let point = l.point in
        let place = l.place in
        let back = l.back in
        (omega (arith, point), omega (arith, place), omega (arith, back));
    narrow = λ a p there. (points_lie_low F c K pairs at plain hard chart images is a p there).width;
    one_call = λ a b p r there here one other e. points_end_apart F c K pairs at plain hard chart images is a b p r there here e;
  }

  met : (a : ℕ) (p : Point) → chart a ≡ Some p → MetUnit chart plain.code hard.code c K F may_skip a p
  met a p there =
      let A = is.only a p there in
      let u = given.units a p there A in
      let w = units_work F c K pairs at plain hard images A.file A.number A.pairing A.point p A.is_pair A.is_point A.is u.link u.may u.stands may_skip u.keeps in
      record {
        number = number_of A.point.reloc u.link.number A.point.instr;
        ends = ends_at (hard_start A) u.link A.is.unit;
        stands = points_stand F c K pairs at plain hard chart images is a p there;
        goes = u.goes;
        lives = points_live F c K pairs at chart is a p there;
        spares = points_spare F c K pairs at chart is a p there;
        meets = u.meets;
        works = w.0;
        short = w.1;
      }

pub lists_are_linked : ListsAreLinked
lists_are_linked F c K pairs at plain hard chart may_skip few images is given =
    met_images_are_linked chart plain.code hard.code c K F may_skip
    (record {
      few = few;
      proper = proper F c K pairs at plain hard chart may_skip images is given;
      units = met F c K pairs at plain hard chart may_skip images is given;
      outside = nothing_at_exit (plains pairs) at plain images.image;
      hard_outside = nothing_at_exit (hards pairs) at hard images.hard_image;
    })
