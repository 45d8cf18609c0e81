-- What the sequence of a point gives of its layout and of its relocation.
use Rattle.std.proofs.Common.{◌≡◌, ◌≤◌, ℕ, ◌+◌, Bool, true, false, List, [], ◌∷◌, ◌++◌, length, refl, sym, ap, ◌∙◌, subst, inl, inr, arith, Option, Some, None}
use Rattle.std.specs.Prelude.{Contains, count_by}
use Rattle.std.proofs.lemmas.Option.{none-some}
use Rattle.std.proofs.lemmas.List.{length-take, length-append}
use Rattle.std.proofs.lemmas.List.Sums.{sum_by-append, sum_by-cons}
use Rattle.elf_model.specs.Objects.{ObjectParts}
use Rattle.elf_model.proofs.Elements.{contains_cases, contains_none, contains_here, contains_later}
use Rattle.thumb_instr.specs.declared.conditions.Cond.{Cond}
use Rattle.thumb_instr.specs.declared.instructions.Instr.{Instr}
use Rattle.flow_recover.specs.declared.flows.Point.{Point}
use Rattle.hardened_form.specs.Code.{reloc_of}
use Rattle.seq_core.specs.declared.classes.Class.{Class}
use Rattle.seq_core.specs.declared.steps.Step.{Step}
use Rattle.seq_core.specs.declared.steps.Goal.TheVariants.{End}
use Rattle.seq_core.specs.Builders.{AreCoded}
use Rattle.seq_core.specs.Classes.{IsOf}
use Rattle.seq_core.specs.Groups.{branching}
use Rattle.seq_core.specs.Needs.{registers_of}
use Rattle.seq_core.specs.Replaced.{leading, replaced}
use Rattle.seq_core.specs.Series.{Series}
use Rattle.it_expand.specs.Expanded.{body_of, guard_of}
use Rattle.branch_layout.specs.Leading.{AllLead, AllLeadAs, built}
use Rattle.branch_layout.proofs.BuiltFacts.{lead, lead_as, all_lead_as}
use Rattle.branch_layout.proofs.LeadingFacts.{guarded_lead, landed_lead}
use Rattle.emit_object.specs.UnitCopies.{is_half, carries}
use Rattle.point_units.specs.Scratch.{scratch_of}
use Rattle.point_units.specs.Units.{never_returns, trapping, landed, under, left_instr, IsReplaced, IsSequenceOf, of_it, of_instr}
use Rattle.unit_layouts.proofs.BytesFacts.{some_step}
use Rattle.unit_layouts.proofs.CarrierFacts.{one_carrier, halves_own}
use Rattle.unit_layouts.proofs.LeftFacts.{left_of, left_needs}

pub record SequenceGives (o : ObjectParts) (copies : ℕ) (x : Point) (s : Series) : Type 0 where
  pub lead : AllLead copies s
  pub aims : AllLeadAs (left_instr o x) s.steps
  pub one : count_by carries s.steps ≤ 1
  pub half : (t : Step) → Contains s.steps t → is_half t.instr ≡ true → t.instr ≡ left_instr o x
  pub some : body_of x.instr ≡ Some x.instr → 1 ≤ length s.steps

coded_front : (xs ys : List Step) → AreCoded (xs ++ ys) → AreCoded xs
coded_front [] ys coded = tt
coded_front (x ∷ xs) ys coded = (coded.0, coded_front xs ys coded.1)

-- a step at the end is none of those that carry
trap_last : (copies : ℕ) (steps : List Step) (t : Step) → Contains (steps ++ trapping copies ∷ []) t → is_half t.instr ≡ true → Contains steps t
trap_last copies [] t h half = elim (contains_cases (trapping copies) [] t h) [
  | inl e ↦ absurd (let no : is_half (trapping copies).instr ≡ true = ap (λ (z : Step). is_half z.instr) e ∙ half in cc)
  | inr n ↦ absurd (contains_none t n)
]
trap_last copies (s ∷ steps) t h half = elim (contains_cases s (steps ++ trapping copies ∷ []) t h) [
  | inl e ↦ subst (Contains (s ∷ steps)) e (contains_here s steps)
  | inr later ↦ contains_later s steps t (trap_last copies steps t later half)
]

module _ (c : Class) (copies : ℕ) (i : Instr) (qs : List ℕ) (of : IsOf c i) where
  abbrev body : List Step
  body = replaced c copies i qs

  landed_leads : (never : Bool) → AreCoded (landed never copies body).steps → AllLead copies (landed never copies body)
  landed_leads true coded = landed_lead copies (built c copies i qs) refl coded (lead c i qs copies of (coded_front body (trapping copies ∷ []) coded))
  landed_leads false coded = lead c i qs copies of coded

  under_leads : (g : Option Cond) (never : Bool) → AreCoded (under g copies (landed never copies body)).steps → AllLead copies (under g copies (landed never copies body))
  under_leads None never coded = landed_leads never coded
  under_leads (Some d) never coded = guarded_lead d copies (landed never copies body) coded (landed_leads never coded.1)

  landed_leads_as : (never : Bool) → AllLeadAs i (landed never copies body).steps
  landed_leads_as true = all_lead_as.landed i copies (built c copies i qs) (lead_as c i qs copies of)
  landed_leads_as false = lead_as c i qs copies of

  under_leads_as : (g : Option Cond) (never : Bool) → AllLeadAs i (under g copies (landed never copies body)).steps
  under_leads_as None never = landed_leads_as never
  under_leads_as (Some d) never = all_lead_as.guarded d i copies (landed never copies body) (landed_leads_as never)

  landed_one : (never : Bool) → count_by carries (landed never copies body).steps ≤ 1
  landed_one true = let one = one_carrier c copies i qs in let sum : count_by carries (body ++ trapping copies ∷ []) ≡ count_by carries body + count_by carries (trapping copies ∷ []) = sum_by-append _ body (trapping copies ∷ []) in omega arith
  landed_one false = one_carrier c copies i qs

  under_one : (g : Option Cond) (never : Bool) → count_by carries (under g copies (landed never copies body)).steps ≤ 1
  under_one None never = landed_one never
  under_one (Some d) never = let one = landed_one never in let sum : count_by carries (under (Some d) copies (landed never copies body)).steps ≡ 0 + count_by carries (landed never copies body).steps = sum_by-cons _ (leading copies End (branching d)) (landed never copies body).steps in omega arith

  landed_half : (never : Bool) (t : Step) → Contains (landed never copies body).steps t → is_half t.instr ≡ true → t.instr ≡ i
  landed_half true t h half = halves_own c copies i qs t of (trap_last copies body t h half) half
  landed_half false t h half = halves_own c copies i qs t of h half

  under_half : (g : Option Cond) (never : Bool) (t : Step) → Contains (under g copies (landed never copies body)).steps t → is_half t.instr ≡ true → t.instr ≡ i
  under_half None never t h half = landed_half never t h half
  under_half (Some d) never t h half = elim (contains_cases (leading copies End (branching d)) (landed never copies body).steps t h) [
    | inl e ↦ absurd (let no : is_half (branching d) ≡ true = ap (λ (z : Step). is_half z.instr) e ∙ half in cc)
    | inr later ↦ landed_half never t later half
  ]

  landed_some : (never : Bool) → 1 ≤ length body → 1 ≤ length (landed never copies body).steps
  landed_some true some = let long : length (body ++ trapping copies ∷ []) ≡ length body + 1 = length-append body (trapping copies ∷ []) in omega arith
  landed_some false some = some

  under_some : (g : Option Cond) (never : Bool) → 1 ≤ length body → 1 ≤ length (under g copies (landed never copies body)).steps
  under_some None never some = landed_some never some
  under_some (Some d) never some = let more = landed_some never some in omega arith

replaced_gives : (o : ObjectParts) (live : ℕ → Bool) (copies : ℕ) (x : Point) (scratch : List ℕ) (s : Series) → IsReplaced o live copies x scratch s → AreCoded s.steps → SequenceGives o copies x s
replaced_gives o live copies x scratch s is coded =
    let i : Instr = left_instr o x in
    let of : IsOf is.class i = left_of o is.class (reloc_of o x.reloc) x.instr is.of in
    let g : Option Cond = guard_of x.cond in
    let never : Bool = never_returns x in
    let many : length scratch ≡ registers_of is.class i =
    (let a = ap length is.first in let b = length-take (registers_of is.class x.instr) (scratch_of live x.instr) in let enough = is.enough in let same = left_needs o is.class (reloc_of o x.reloc) x.instr in omega arith) in
    let made : under g copies (landed never copies (replaced is.class copies i scratch)) ≡ s = sym is.sequence in
    let row : AreCoded (under g copies (landed never copies (replaced is.class copies i scratch))).steps = subst (λ (q : Series). AreCoded q.steps) is.sequence coded in
    subst (SequenceGives o copies x) made (record {
      lead = under_leads is.class copies i scratch of g never row;
      aims = under_leads_as is.class copies i scratch of g never;
      one = under_one is.class copies i scratch of g never;
      half = under_half is.class copies i scratch of g never;
      some = λ b. under_some is.class copies i scratch of g never (some_step is.class copies i scratch of many);
    })

pub sequence_gives : (o : ObjectParts) (live : ℕ → Bool) (copies : ℕ) (x : Point) (scratch : List ℕ) (s : Series) → IsSequenceOf o live copies x scratch s → SequenceGives o copies x s
sequence_gives o live copies x scratch s (of_it body none empty) = subst (SequenceGives o copies x) (sym empty) (record {
  lead = λ k t e. absurd (none-some t e);
  aims = λ k t e. absurd (none-some t e);
  one = omega arith;
  half = λ t h. absurd (contains_none t h);
  some = λ b. absurd (none-some x.instr (sym body ∙ b));
})
sequence_gives o live copies x scratch s (of_instr body is works coded) = replaced_gives o live copies x scratch s is coded
