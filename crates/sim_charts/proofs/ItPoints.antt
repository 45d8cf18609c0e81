-- An IT has an empty unit.
use Rattle.std.proofs.Common.{◌≡◌, ℕ, Bool, Ok, refl, sym, ap, ◌∙◌, subst, arith}
use Rattle.thumb_instr.specs.declared.instructions.Instr.TheVariants as instr
use Rattle.thumb_instr.specs.Fields.{ItFields}
use Rattle.thumb_table.specs.Parts.{CodeBytes}
use Rattle.thumb_table.specs.States.{Core, at, applied, unchanged}
use Rattle.thumb_table.specs.Steps.{goes_on}
use Rattle.seq_core.specs.Does.{Effect, Comes, SameBut, Tolerates}
use Rattle.seq_core.specs.Meanings.{Ends, meant}
use Rattle.sim_charts.specs.Charts.{Point, unit_of}
use Rattle.sim_charts.specs.Empty.{EmptyUnitsWork}
use Rattle.sim_charts.proofs.ExampleUnits.{change_is}

abbrev nothing : Effect
nothing y = Ok unchanged

same_unchanged : (loses : ℕ → Bool) (y : Core) → y.it ≡ 0 → SameBut loses (applied unchanged y) y
same_unchanged loses y e = record { count = refl; members = λ k l. record { word = λ b. refl; n = λ q. refl; z = λ q. refl; c = λ q. refl; v = λ q. refl }; memory = refl; clear = e }

nothing_works : (hard : CodeBytes) (c : ℕ) (p : Point) → p.place ≡ p.end → Tolerates hard c (unit_of p nothing)
nothing_works hard c p empty skips legal clock = record {
  acts = λ y h b t made.
      let h_is : unchanged ≡ h = change_is _ _ _ refl made in
      subst (λ q. (z : Core) × Comes hard skips p.length clock (at p.place y) (at (goes_on p.end q.exit) z) × SameBut p.loses (applied q y) z) h_is (y, stays y, same_unchanged p.loses y b.clear);
  rests = λ y b t. stays y;
  halts = λ y b t made. absurd cc;
}
  where
    stays : (y : Core) → Comes hard skips p.length clock (at p.place y) (at p.end y)
    stays y = record { steps = 0; within = omega arith; runs = ap (λ n. Ok (at n y)) empty }

it_means : (i : ItFields) (e : Ends) → meant (instr.It i) e ≡ nothing
unfolding meant
it_means i e = refl

pub empty_units_work : EmptyUnitsWork
empty_units_work hard c p i e is empty = subst (λ (f : Effect). Tolerates hard c (unit_of p f)) (sym (it_means i e) ∙ ap (λ j. meant j e) (sym is)) (nothing_works hard c p empty)
