-- Whether a member is live before a point can be told: a path needs unmet more steps than there are points.
use Rattle.std.specs.Prelude.{◌≡◌, ◌<◌, ◌≤◌, ◌⊎◌, ◌↔◌, ℕ, zero, suc, ◌+◌, ◌&&◌, ◌||◌, not, Bool, true, false, cond, length, Option, Some, None, slice_get, refl}
use Rattle.std.proofs.Common.{arith, inl, inr, ap, sym, ◌∙◌, subst}
use Rattle.std.proofs.lemmas.Bool.{true≢false, cases_Bool, or_cases, or_left, or_right, and_parts, and_from, or_parts, cases_order, not_from_false}
use Rattle.std.proofs.lemmas.Option.{slice_get_within}
use Rattle.flow_recover.specs.declared.flows.Exit.{Exit}
use Rattle.flow_recover.specs.declared.flows.Exit.TheVariants.{Falls, Branch, Transfer, Call, Return, Stops}
use Rattle.flow_recover.specs.declared.flows.Point.{Point as FlowPoint}
use Rattle.flow_recover.specs.Flows.{FlowParts}
use Rattle.liveness.specs.declared.boundary.Boundary.{Boundary}
use Rattle.liveness.specs.Paths.{Leads, passes, always_writes, uses_at, Keeps, IsLiveBefore}
use Rattle.liveness.specs.Paths.Keeps.{here, further}

-- how many of the first n numbers pass
abbrev count : (ℕ → Bool) → ℕ → ℕ
count h zero = 0
count h (suc n) = cond (h n) 1 0 + count h n

one_at_most : (b : Bool) → cond b 1 0 ≤ 1
one_at_most true = omega arith
one_at_most false = omega arith

one_more : (a b : Bool) → (a ≡ true → b ≡ true) → cond a 1 0 ≤ cond b 1 0
one_more true true h = omega arith
one_more true false h = absurd (true≢false (sym (h refl)))
one_more false b h = omega arith

count_most : (h : ℕ → Bool) (n : ℕ) → count h n ≤ n
count_most h zero = omega arith
count_most h (suc n) = let e = count_most h n in let o = one_at_most (h n) in omega (arith, e, o)

count_more : (g h : ℕ → Bool) → ((p : ℕ) → g p ≡ true → h p ≡ true) → (n : ℕ) → count g n ≤ count h n
count_more g h more zero = omega arith
count_more g h more (suc n) = let e = count_more g h more n in let o = one_more (g n) (h n) (more n) in omega (arith, e, o)

one_new : (a b : Bool) → a ≡ false → b ≡ true → cond a 1 0 < cond b 1 0
one_new true b e f = absurd (true≢false e)
one_new false true e f = omega arith
one_new false false e f = absurd (true≢false (sym f))

count_new : (g h : ℕ → Bool) → ((p : ℕ) → g p ≡ true → h p ≡ true) → (n p : ℕ) → p < n → g p ≡ false → h p ≡ true → count g n < count h n
count_new g h more zero p lt unmet met = absurd (omega arith)
count_new g h more (suc n) p lt unmet met =
    elim (cases_order p n) [
      | inl e ↦
          let o = one_new (g n) (h n) (subst (λ (k : ℕ). g k ≡ false) e unmet) (subst (λ (k : ℕ). h k ≡ true) e met) in
          let rest = count_more g h more n in
          omega (arith, o, rest)
      | inr (inl l) ↦
          let rest = count_new g h more n p l unmet met in
          let o = one_more (g n) (h n) (more n) in
          omega (arith, o, rest)
      | inr (inr l) ↦ absurd (omega arith)
    ]

-- all of them pass, or one does not
pub missed : (h : ℕ → Bool) (n : ℕ) → ((p : ℕ) → p < n → h p ≡ true) ⊎ ((p : ℕ) × (p < n) × (h p ≡ false))
missed h zero = inl (λ p lt. absurd (omega arith))
missed h (suc n) =
    elim (cases_Bool (h n)) [
      | inl met ↦
          elim (missed h n) [
            | inl all ↦ inl (λ p lt. elim (cases_order p n) [ inl e ↦ subst (λ (k : ℕ). h k ≡ true) (sym e) met | inr (inl l) ↦ all p l | inr (inr l) ↦ absurd (omega arith) ])
            | inr m ↦ inr (m.0, let l = m.1 in omega (arith, l), m.2)
          ]
      | inr unmet ↦ inr (n, omega arith, unmet)
    ]

abbrev on_next : (ℕ → Bool) → Option ℕ → Bool
on_next h None = false
on_next h (Some q) = h q

abbrev on_exit : (ℕ → Bool) → Exit → Bool
on_exit h Falls = false
on_exit h (Branch q) = h q
on_exit h Transfer = false
on_exit h Call = false
on_exit h Return = false
on_exit h Stops = false

next_on : (h : ℕ → Bool) (o : Option ℕ) → on_next h o ≡ true → (q : ℕ) × (o ≡ Some q) × (h q ≡ true)
next_on h None e = absurd (true≢false (sym e))
next_on h (Some q) e = (q, refl, e)

exit_on : (h : ℕ → Bool) (e : Exit) → on_exit h e ≡ true → (q : ℕ) × (e ≡ Branch q) × (h q ≡ true)
exit_on h Falls e = absurd (true≢false (sym e))
exit_on h (Branch q) e = (q, refl, e)
exit_on h Transfer e = absurd (true≢false (sym e))
exit_on h Call e = absurd (true≢false (sym e))
exit_on h Return e = absurd (true≢false (sym e))
exit_on h Stops e = absurd (true≢false (sym e))

leads_on : (h : ℕ → Bool) (x : FlowPoint) → (on_next h x.next || on_exit h x.exit) ≡ true → (q : ℕ) × Leads x q × (h q ≡ true)
leads_on h x e =
    elim (or_cases (on_next h x.next) (on_exit h x.exit) e) [
      | inl n ↦ let w = next_on h x.next n in (w.0, inl w.1, w.2)
      | inr t ↦ let w = exit_on h x.exit t in (w.0, inr w.1, w.2)
    ]

on_leads : (h : ℕ → Bool) (x : FlowPoint) (q : ℕ) → Leads x q → h q ≡ true → (on_next h x.next || on_exit h x.exit) ≡ true
on_leads h x q (inl n) e = or_left (on_next h x.next) (on_exit h x.exit) (ap (on_next h) n ∙ e)
on_leads h x q (inr t) e = or_right (on_next h x.next) (on_exit h x.exit) (ap (on_exit h) t ∙ e)

module _ (f : FlowParts) (b : Boundary) (k : ℕ) where
  -- what a point has from where it leads
  abbrev gained : (ℕ → Bool) → Option FlowPoint → Bool
  gained h None = false
  gained h (Some x) = uses_at b x k || (passes x && ((on_next h x.next || on_exit h x.exit) && not (always_writes x k)))

  -- by a path of fewer steps than that
  abbrev told : ℕ → ℕ → Bool
  told zero p = false
  told (suc d) p = told d p || gained (told d) (slice_get f.points p)

  not_true : (x : Bool) → not x ≡ true → x ≡ false
  not_true true h = absurd (true≢false (sym h))
  not_true false h = refl

  gained_live : (h : ℕ → Bool) → ((q : ℕ) → h q ≡ true → IsLiveBefore f b k q) → (p : ℕ) (o : Option FlowPoint) → slice_get f.points p ≡ o → gained h o ≡ true → IsLiveBefore f b k p
  gained_live h live p None there e = absurd (true≢false (sym e))
  gained_live h live p (Some x) there e =
      elim (or_cases (uses_at b x k) (passes x && ((on_next h x.next || on_exit h x.exit) && not (always_writes x k))) e) [
        | inl u ↦ record { last = p; point = x; path = here p; there = there; used = u }
        | inr r ↦
            let a = and_parts (passes x) ((on_next h x.next || on_exit h x.exit) && not (always_writes x k)) r in
            let z = and_parts (on_next h x.next || on_exit h x.exit) (not (always_writes x k)) a.1 in
            let w = leads_on h x z.0 in
            let rest = live w.0 w.2 in
            record { last = rest.last; point = rest.point; path = further p w.0 rest.last x there a.0 (not_true (always_writes x k) z.1) w.1 rest.path; there = rest.there; used = rest.used }
      ]

  told_live : (d p : ℕ) → told d p ≡ true → IsLiveBefore f b k p
  told_live zero p e = absurd (true≢false (sym e))
  told_live (suc d) p e =
      elim (or_cases (told d p) (gained (told d) (slice_get f.points p)) e) [
        | inl t ↦ told_live d p t
        | inr g ↦ gained_live (told d) (told_live d) p (slice_get f.points p) refl g
      ]

  -- one more step adds nothing
  abbrev IsSettled : (ℕ → Bool) → Type 0
  IsSettled h = (p : ℕ) → gained h (slice_get f.points p) ≡ true → h p ≡ true

  settled_path : (h : ℕ → Bool) → IsSettled h → (p q : ℕ) (y : FlowPoint) → Keeps f.points k p q → slice_get f.points q ≡ Some y → uses_at b y k ≡ true → h p ≡ true
  settled_path h settled _ _ y (here p) there used =
      settled p (ap (gained h) there ∙ or_left (uses_at b y k) (passes y && ((on_next h y.next || on_exit h y.exit) && not (always_writes y k))) used)
  settled_path h settled _ _ y (further p m q x at pass keep leads rest) there used =
      let held = settled_path h settled m q y rest there used in
      let more = and_from (on_next h x.next || on_exit h x.exit) (not (always_writes x k)) (on_leads h x m leads held) (not_from_false (always_writes x k) keep) in
      settled p
      (ap (gained h) at
      ∙ or_right (uses_at b x k) (passes x && ((on_next h x.next || on_exit h x.exit) && not (always_writes x k)))
      (and_from (passes x) ((on_next h x.next || on_exit h x.exit) && not (always_writes x k)) pass more))

  abbrev check : (ℕ → Bool) → ℕ → Bool
  check h p = not (gained h (slice_get f.points p)) || h p

  checked : (h : ℕ → Bool) (p : ℕ) → check h p ≡ true → gained h (slice_get f.points p) ≡ true → h p ≡ true
  checked h p e g =
      elim (or_cases (not (gained h (slice_get f.points p))) (h p) e) [
        | inl n ↦ absurd (true≢false (sym g ∙ not_true (gained h (slice_get f.points p)) n))
        | inr t ↦ t
      ]

  not_false : (x : Bool) → not x ≡ false → x ≡ true
  not_false true h = refl
  not_false false h = absurd (true≢false h)

  refused : (h : ℕ → Bool) (p : ℕ) → check h p ≡ false → (gained h (slice_get f.points p) ≡ true) × (h p ≡ false)
  refused h p e = let w = or_parts (not (gained h (slice_get f.points p))) (h p) e in (not_false (gained h (slice_get f.points p)) w.0, w.1)

  gained_within : (h : ℕ → Bool) (p : ℕ) (o : Option FlowPoint) → slice_get f.points p ≡ o → gained h o ≡ true → p < length f.points
  gained_within h p None there e = absurd (true≢false (sym e))
  gained_within h p (Some x) there e = slice_get_within f.points p x there

  grown : (d : ℕ) → ((e : ℕ) × IsSettled (told e)) ⊎ (d ≤ count (told d) (length f.points))
  grown zero = inr (omega arith)
  grown (suc d) =
      elim (grown d) [
        | inl s ↦ inl s
        | inr le ↦
            elim (missed (check (told d)) (length f.points)) [
              | inl all ↦ inl (d, λ p g. checked (told d) p (all p (gained_within (told d) p (slice_get f.points p) refl g)) g)
              | inr m ↦
                  let w = refused (told d) m.0 m.2 in
                  let new =
                  count_new (told d) (told (suc d)) (λ p t. or_left (told d p) (gained (told d) (slice_get f.points p)) t) (length f.points) m.0 m.1 w.1
                  (or_right (told d m.0) (gained (told d) (slice_get f.points m.0)) w.0) in
                  inr (omega (arith, le, new))
            ]
      ]

  last_turn : (e : ℕ) × IsSettled (told e)
  last_turn =
      elim (grown (length f.points + 1)) [
        | inl s ↦ s
        | inr le ↦ let most = count_most (told (length f.points + 1)) (length f.points) in absurd (omega (arith, le, most))
      ]

  -- so there is a test
  pub live_test : (h : ℕ → Bool) × ((p : ℕ) → (h p ≡ true) ↔ IsLiveBefore f b k p)
  live_test =
      let s = last_turn in
      (told s.0, λ p. (λ e. told_live s.0 p e, λ l. settled_path (told s.0) s.1 p l.last l.point l.path l.there l.used))
