-- A run of the example that is ordinary and returns.
use Rattle.std.proofs.Common.{◌≡◌, ℕ, zero, suc, ◌<◌, inl, inr, ⊎_elim, false, [], Result, Ok, refl, sym, ◌∙◌, subst, arith}
use Rattle.std.specs.Prelude.{All, Contains}
use Rattle.mark_word.specs.Words.{Word, plain}
use Rattle.mark_word.specs.declared.marks.Mark.TheVariants as mark
use Rattle.thumb_instr.specs.HalfRows.{half_rows}
use Rattle.thumb_instr.specs.FullRows.{full_rows}
use Rattle.thumb_table.specs.declared.faults.FaultKind.{FaultKind}
use Rattle.thumb_table.specs.States.{State, at, read}
use Rattle.thumb_table.specs.Effects.{change}
use Rattle.thumb_table.specs.Ordinary.{IsClear, IsLow}
use Rattle.thumb_table.specs.Steps.{move, fetch, IsOrdinary}
use Rattle.thumb_table.specs.Schedules.{run, OrdinaryRun}
use Rattle.seq_core.specs.Does.{never}
use Rattle.sim_charts.proofs.Endings.{not_yet}
use Rattle.sim_charts.specs.Example.{plain_code, core_of, end_word, called, returned, ExampleRuns}

abbrev back_word : Word
back_word = record { bits = 0x8007; mark = mark.Return 0x8007 }

abbrev t0 : State
t0 = at 0x8000 (core_of 1 (plain 0) end_word)

abbrev t1 : State
t1 = at 0x8002 (core_of 1 end_word end_word)

abbrev t2 : State
t2 = at 0x8010 (core_of 1 end_word back_word)

abbrev t3 : State
t3 = at 0x8006 (core_of 1 end_word back_word)

abbrev t4 : State
t4 = at 0x8008 (core_of 1 end_word back_word)

abbrev t5 : State
t5 = at 0x800A (core_of 0 end_word back_word)

abbrev t6 : State
t6 = at 0x8006 (core_of 0 end_word back_word)

abbrev t7 : State
t7 = at 0x800C (core_of 0 end_word back_word)

abbrev t8 : State
t8 = at 0x800E (core_of 0 end_word end_word)

abbrev Goes : State → State → Type 0
Goes s t = move plain_code false s ≡ Ok t

step0 : Goes t0 t1
unfolding half_rows full_rows change
step0 = refl

step1 : Goes t1 t2
unfolding half_rows full_rows change
step1 = refl

step2 : Goes t2 t3
unfolding half_rows full_rows change
step2 = refl

step3 : Goes t3 t4
unfolding half_rows full_rows change
step3 = refl

step4 : Goes t4 t5
unfolding half_rows full_rows change
step4 = refl

step5 : Goes t5 t6
unfolding half_rows full_rows change
step5 = refl

step6 : Goes t6 t7
unfolding half_rows full_rows change
step6 = refl

step7 : Goes t7 t8
unfolding half_rows full_rows change
step7 = refl

step8 : Goes t8 returned
unfolding half_rows full_rows change
step8 = refl

abbrev Ordinary : State → Type 0
Ordinary s = IsOrdinary plain_code (fetch plain_code s.pc) s

low_not : IsLow mark.Plain → ⊥
low_not e = let q = e.1 in absurd cc

none : (P : ℕ → Type 0) → All P []
none P k d lt = absurd (omega arith)

no_stop : Contains plain_code.stops 0x8006 → ⊥
no_stop (zero, lt, e) = absurd (omega arith)
no_stop (suc zero, lt, e) = absurd (omega arith)
no_stop (suc (suc zero), lt, e) = absurd (omega arith)
no_stop (suc (suc (suc k)), lt, e) = absurd (omega arith)

-- behind the call there is no stop, and no NOP
clear : IsClear plain_code 0x8006
clear zero nops stop = no_stop stop
clear (suc k) nops stop = let n = nops 0 (omega arith) in ⊎_elim (λ (e : 0xB108 ≡ 0xBF00). omega arith) (λ (e : 0xB108 ≡ 0x46C0). omega arith) n.1

o0 : Ordinary t0
unfolding half_rows full_rows
o0 = λ t. record { numbers = none _; proper = λ e. absurd cc }

o1 : Ordinary t1
unfolding half_rows full_rows
o1 = λ t. record { numbers = none _; proper = tt }

o2 : Ordinary t2
unfolding half_rows full_rows
o2 = λ t. record { numbers = none _; proper = inr ((0x8007, refl), inr clear) }

o3 : Ordinary t3
unfolding half_rows full_rows
o3 = λ t. record { numbers = none _; proper = λ e. absurd (low_not e) }

o4 : Ordinary t4
unfolding half_rows full_rows
o4 = λ t. record { numbers = none _; proper = λ e. absurd cc }

o5 : Ordinary t5
unfolding half_rows full_rows
o5 = λ t. record { numbers = none _; proper = tt }

o6 : Ordinary t6
unfolding half_rows full_rows
o6 = λ t. record { numbers = none _; proper = λ e. absurd (low_not e) }

o7 : Ordinary t7
unfolding half_rows full_rows
o7 = λ t. record { numbers = none _; proper = λ e. absurd cc }

o8 : Ordinary t8
unfolding half_rows full_rows
o8 = λ t. record { numbers = none _; proper = inr ((0x7FFFFFFF, refl), inl refl) }

pub ok_is : (s t : State) (r : Result State FaultKind) → r ≡ Ok s → r ≡ Ok t → s ≡ t
ok_is s t r e f = let q = sym e ∙ f in ok s t q
  where
    ok_of : State → Result State FaultKind
    ok_of s = Ok s

    ok : (s t : State) → (let r : Result State FaultKind = Ok s in r) ≡ Ok t → s ≡ t
    ok s t q = cc

then_on : (n i : ℕ) (s t : State) → Ordinary s → Goes s t → OrdinaryRun plain_code never n (suc i) t → OrdinaryRun plain_code never (suc n) i s
then_on n i s t o e rest = (λ w. o, λ next f. subst (OrdinaryRun plain_code never n (suc i)) (ok_is t next (move plain_code false s) e f) rest)

nine_steps : run plain_code never 9 0 called ≡ Ok returned
unfolding half_rows full_rows change
nine_steps = refl

pub example_runs : ExampleRuns
example_runs = record {
  starts = record { count = refl; clear = refl; numbers = λ k lt. by_number k lt; link = refl; bare_cells = λ k. refl };
  returns = record { some = omega arith; goes = record { runs = nine_steps; on = λ j u lt le e. not_yet plain_code never 9 0 j called returned u refl nine_steps le e }; over = refl };
  ordinary = then_on 8 0 t0 t1 o0 step0 (then_on 7 1 t1 t2 o1 step1 (then_on 6 2 t2 t3 o2 step2 (then_on 5 3 t3 t4 o3 step3 (then_on 4 4 t4 t5 o4 step4 (then_on 3 5 t5 t6 o5 step5 (then_on 2 6 t6 t7 o6 step6 (then_on 1 7 t7 t8 o7 step7 (then_on 0 8 t8 returned o8 step8 tt))))))));
}
  where
    by_number : (k : ℕ) → k < 14 → (read called.core k).mark ≡ mark.Plain
    by_number zero lt = refl
    by_number (suc zero) lt = refl
    by_number (suc (suc zero)) lt = refl
    by_number (suc (suc (suc zero))) lt = refl
    by_number (suc (suc (suc (suc zero)))) lt = refl
    by_number (suc (suc (suc (suc (suc zero))))) lt = refl
    by_number (suc (suc (suc (suc (suc (suc zero)))))) lt = refl
    by_number (suc (suc (suc (suc (suc (suc (suc zero))))))) lt = refl
    by_number (suc (suc (suc (suc (suc (suc (suc (suc zero)))))))) lt = refl
    by_number (suc (suc (suc (suc (suc (suc (suc (suc (suc zero))))))))) lt = refl
    by_number (suc (suc (suc (suc (suc (suc (suc (suc (suc (suc zero)))))))))) lt = refl
    by_number (suc (suc (suc (suc (suc (suc (suc (suc (suc (suc (suc zero))))))))))) lt = refl
    by_number (suc (suc (suc (suc (suc (suc (suc (suc (suc (suc (suc (suc zero)))))))))))) lt = refl
    by_number (suc (suc (suc (suc (suc (suc (suc (suc (suc (suc (suc (suc (suc zero))))))))))))) lt = refl
    by_number (suc (suc (suc (suc (suc (suc (suc (suc (suc (suc (suc (suc (suc (suc k)))))))))))))) lt = absurd (omega arith)
