-- A walk knows reached nodes alone, and in the end all of them.
use Rattle.std.proofs.Common.{◌≡◌, ◌↔◌, ◌<◌, ◌≤◌, ◌+◌, ◌-◌, ◌^◌, ℕ, zero, suc, Bool, true, false, cond, not, refl, sym, ap, ◌∙◌, subst, inl, inr, ◌⊎◌, List, [], ◌∷◌, ◌++◌, Option, Some, None, arith, get_or, take, length, map, replicate, IsTrue}
use Rattle.std.specs.Prelude.{Contains, count_by, slice_get}
use Rattle.std.specs.declared.cmp.Ordering.{Ordering}
use Rattle.std.specs.declared.cmp.Ordering.TheVariants.{Less, Equal, Greater}
use Rattle.std.specs.Ordering.{is_eq}
use Rattle.std.specs.BTreeMap.{BTreeMap, keys, get}
use Rattle.std.specs.BTreeSet.{contains}
use Rattle.std.specs.List.Sorted.{IsStrictlySortedBy}
use Rattle.std.proofs.Math.ListN.{set}
use Rattle.std.proofs.lemmas.Bool.{true≢false, cases_eq}
use Rattle.std.proofs.lemmas.Option.{none-some, same_Some, slice_get_within, slice_get-get_or}
use Rattle.std.proofs.lemmas.Cmp.{tied_itself}
use Rattle.std.proofs.lemmas.List.{length-set, length_push, length-map, length-replicate, take_more}
use Rattle.std.proofs.lemmas.List.Sums.{sum_by-cons}
use Rattle.std.proofs.lemmas.List.Elements.{Contains-append_left, Contains-append_right, Contains-append_cases}
use Rattle.std.proofs.lemmas.Map.Views.{btree_set_contains_iff, btree_map_contains_key_iff}
use Rattle.elf_model.specs.Objects.{ObjectParts, is_object, is_within}
use Rattle.index_links.specs.Queues.{PendingParts}
use Rattle.flow_recover.specs.declared.named.Claim.{Claim}
use Rattle.flow_recover.specs.declared.nodes.Node.{Node}
use Rattle.flow_recover.specs.declared.walks.Walk.{Walk}
use Rattle.code_ranges.specs.Spans.{place_cmp}
use Rattle.reloc_places.specs.Starts.{bytes_of, HasStart, behind}
use Rattle.reloc_places.specs.Tables.{AreStarts}
use Rattle.flow_recover.specs.Reach.{node_at, LeadsOn, LeadsAway, IsReached}
use Rattle.flow_recover.specs.Reach.LeadsOn.{on}
use Rattle.flow_recover.specs.Reach.LeadsAway.{away}
use Rattle.flow_recover.specs.Reach.IsReached.{named, led_on, led_away}
use Rattle.flow_recover.specs.Charts.{AreNamed, AreNodes, node_cmp}
use Rattle.flow_recover.specs.Walks.{IsSeed, Leads, IsKnown, Keeps, turns_left, IsWalk, IsPut, CameTo, IsLed, IsTurned, IsWalkedOn, IsTaken, IsWalkedThrough}
use Rattle.flow_recover.specs.Walks.IsKnown.{had, waits, next}
use Rattle.flow_recover.specs.Walks.IsTaken.{none_waits, oldest}
use Rattle.flow_recover.specs.Walks.CameTo.{nowhere, no_start, put_there}
use Rattle.elf_model.proofs.Elements.{contains_cases, contains_here, contains_none, contains_at, contains_map, place_of}
use Rattle.index_links.proofs.Places.{set_there, set_other}
use Rattle.reloc_places.proofs.StartFacts.{start_found, start_inside, length_least, any_limit, code_within}
use Rattle.code_ranges.proofs.PlaceOrder.{place_total, place_exact}
use Rattle.flow_recover.proofs.NodeOrder.{node_total, node_exact}
use Rattle.flow_recover.specs.WholeFlows.{place_of_node}
use Rattle.flow_recover.proofs.PointCount.{few_nodes}
use Rattle.flow_recover.proofs.PointFacts.{reached_starts}

-- a mark that is set
abbrev one_unless : Bool → ℕ
one_unless b = cond (not b) 1 0

marks_step : (b : Bool) (marks : List Bool) → count_by not (b ∷ marks) ≡ one_unless b + count_by not marks
marks_step b marks = sum_by-cons one_unless b marks

fewer_unmarked : (marks : List Bool) (i : ℕ) → slice_get marks i ≡ Some false → count_by not (set marks i true) + 1 ≡ count_by not marks
fewer_unmarked [] i e = absurd (none-some false e)
fewer_unmarked (b ∷ marks) zero e =
    let one : one_unless b ≡ 1 = ap one_unless (same_Some b false e) in
    let old = marks_step b marks in
    let new = marks_step true marks in
    omega arith
fewer_unmarked (b ∷ marks) (suc i) e =
    let rest = fewer_unmarked marks i e in
    let old = marks_step b marks in
    let new = marks_step b (set marks i true) in
    omega arith

-- a start is put
pub record IsQueued (i : ℕ) (old new : PendingParts) (put : Bool) : Type 0 where
  pub waits : (put ≡ false) ↔ Contains old.waiting i
  pub waiting : new.waiting ≡ cond put (old.waiting ++ i ∷ []) old.waiting
  pub size : new.size ≡ old.size

module _ (i : ℕ) (old new : PendingParts) (put : Bool) (queued : IsQueued i old new put) where
  record Queued : Type 0 where
    pub kept : (k : ℕ) → Contains old.waiting k → Contains new.waiting k
    pub only : (k : ℕ) → Contains new.waiting k → Contains old.waiting k ⊎ (k ≡ i)
    pub here : Contains new.waiting i
    pub few : length new.waiting ≤ length old.waiting + 1

  go_queued : (b : Bool) → put ≡ b → new.waiting ≡ cond b (old.waiting ++ i ∷ []) old.waiting → Queued
  go_queued true p e =
      let len = length_push old.waiting i in
      let same = ap (λ (l : List ℕ). length l) e in
      record {
        kept = λ k c. subst (λ (l : List ℕ). Contains l k) (sym e) (Contains-append_left old.waiting (i ∷ []) k c);
        only = λ k c. elim (Contains-append_cases old.waiting (i ∷ []) k (subst (λ (l : List ℕ). Contains l k) e c)) [
          | inl x ↦ inl x
          | inr x ↦ elim (contains_cases i [] k x) [ inl z ↦ inr (sym z) | inr r ↦ absurd (contains_none k r) ]
        ];
        here = subst (λ (l : List ℕ). Contains l i) (sym e) (Contains-append_right old.waiting (i ∷ []) i (contains_here i []));
        few = omega arith;
      }
  go_queued false p e =
      let same = ap (λ (l : List ℕ). length l) e in
      record {
        kept = λ k c. subst (λ (l : List ℕ). Contains l k) (sym e) c;
        only = λ k c. inl (subst (λ (l : List ℕ). Contains l k) e c);
        here = subst (λ (l : List ℕ). Contains l i) (sym e) (queued.waits.0 p);
        few = omega arith;
      }

  facts : Queued
  facts = go_queued put refl queued.waiting

pub put_new : (i : ℕ) (old new : Walk) (put : Bool) → slice_get old.come.items i ≡ Some false → new.places ≡ old.places → new.nodes ≡ old.nodes → new.come.items ≡ set old.come.items i true → IsQueued i old.pending new.pending put → IsPut i old new
put_new i old new put unmarked places nodes come queued =
    let f = facts i old.pending new.pending put queued in
    let fewer = fewer_unmarked old.come.items i unmarked in
    let marks : count_by not new.come.items ≡ count_by not (set old.come.items i true) = ap (count_by not) come in
    let more = f.few in
    record {
      places = places;
      nodes = nodes;
      sized = ap (λ (l : List Bool). length l) come ∙ length-set old.come.items i true;
      queue = queued.size;
      mark = ap (λ (l : List Bool). slice_get l i) come ∙ set_there old.come.items i true (slice_get_within old.come.items i false unmarked);
      others = λ k ne. ap (λ (l : List Bool). slice_get l k) come ∙ set_other old.come.items i k true ne;
      kept = f.kept;
      only = f.only;
      waits = inr f.here;
      few = omega arith;
    }

-- no mark is set yet
unmarked : (n i : ℕ) → slice_get (replicate n false) i ≡ Some true → ⊥
unmarked zero i e = none-some true e
unmarked (suc n) zero e = true≢false (sym (same_Some false true e))
unmarked (suc n) (suc i) e = unmarked n i e

abbrev start_node : ℕ × ℕ → Node
start_node p = node_at p.0 p.1

places_back : (places : List (ℕ × ℕ)) → map place_of_node (map start_node places) ≡ places
places_back [] = refl
places_back (p ∷ rest) = ap (λ (l : List (ℕ × ℕ)). p ∷ l) (places_back rest)

same_pair : (a b c d : ℕ) → ◌≡◌ {A = ℕ × ℕ} (a, b) (c, d) → (a ≡ c) × (b ≡ d)
same_pair a b c d e = (ap (λ (p : ℕ × ℕ). p.0) e, ap (λ (p : ℕ × ℕ). p.1) e)

clear_node : (n : Node) → n.it ≡ 0 → n ≡ node_at n.section n.offset
clear_node n e = ap (λ (it : ℕ). record { section = n.section; offset = n.offset; it = it }) e

-- how far a node is from the end of its section at most
abbrev pub to_go : Option Node → ℕ
to_go None = 0
to_go (Some n) = 2 ^ 24 + 1 - n.offset

pub same_pending : (a b : PendingParts) → a.waiting ≡ b.waiting → a.size ≡ b.size → a ≡ b
same_pending a b e f = ap (λ (w : List ℕ). record a { waiting = w }) e ∙ ap (λ (n : ℕ). record b { size = n }) f

module _ (o : ObjectParts) where
  -- where control has come
  pub record IsCome (before : Option Node) (old new : Walk) (n : Option Node) : Type 0 where
    pub walk : IsWalk o new before
    pub keeps : Keeps old before new before
    pub known : (m : Node) → n ≡ Some m → HasStart o m.section m.offset → IsKnown new before m
    pub few : turns_left new ≤ turns_left old

  module _ (before : Option Node) (old : Walk) (walk : IsWalk o old before) where
    unchanged : (n : Option Node) → ((m : Node) → n ≡ Some m → HasStart o m.section m.offset → ⊥) → IsCome before old old n
    unchanged n none = record { walk = walk; keeps = λ k known. known; known = λ m e s. absurd (none m e s); few = omega arith }

    module _ (new : Walk) (i : ℕ) (put : IsPut i old new) (n : Node) (there : slice_get old.places.items i ≡ Some (n.section, n.offset)) (clear : n.it ≡ 0) (reached : IsReached o n) where
      place : (k : ℕ) → slice_get new.places.items k ≡ slice_get old.places.items k
      place k = ap (λ p. slice_get p.items k) put.places

      kept : Keeps old before new before
      kept k (had h) = had (ap (λ s. contains node_cmp s k) put.nodes ∙ h)
      kept k (waits q c e z) = waits q (put.kept q c) (place q ∙ e) z
      kept k (next e) = next e

      -- what is known now was known, or is the node that control came to
      was_known : (k : Node) → IsKnown new before k → IsKnown old before k ⊎ (k ≡ n)
      was_known k (had h) = inl (had (sym (ap (λ s. contains node_cmp s k) put.nodes) ∙ h))
      was_known k (waits q c e z) = elim (put.only q c) [
        | inl x ↦ inl (waits q x (sym (place q) ∙ e) z)
        | inr same ↦
            let both : Some (k.section, k.offset) ≡ Some (n.section, n.offset) = sym e ∙ place q ∙ ap (λ (j : ℕ). slice_get old.places.items j) same ∙ there in
            let at = same_pair k.section k.offset n.section n.offset (same_Some (k.section, k.offset) (n.section, n.offset) both) in
            inr (clear_node k z ∙ ap (λ (j : ℕ). node_at j k.offset) at.0 ∙ ap (node_at n.section) at.1 ∙ sym (clear_node n clear))
      ]
      was_known k (next e) = inl (next e)

      now_known : IsKnown new before n
      now_known = elim put.waits [
        | inl marked ↦ kept n (subst (λ (k : Node). IsKnown old before k) (sym (clear_node n clear)) (walk.marked i n.section n.offset marked there))
        | inr c ↦ waits i c (place i ∙ there) clear
      ]

      put_walks : IsWalk o new before
      put_walks = record {
        shape = record {
          order = subst (λ p. IsStrictlySortedBy place_cmp p.items) (sym put.places) walk.shape.order;
          few = subst (λ p. length p.items < 2 ^ 32) (sym put.places) walk.shape.few;
          come = put.sized ∙ walk.shape.come ∙ ap (λ p. length p.items) (sym put.places);
          queue = put.queue ∙ walk.shape.queue ∙ ap (λ p. length p.items) (sym put.places);
        };
        starts = λ j x. subst (λ p. Contains p.items (j, x) ↔ HasStart o j x) (sym put.places) (walk.starts j x);
        reached = λ k known. elim (was_known k known) [ inl x ↦ walk.reached k x | inr e ↦ subst (λ (z : Node). IsReached o z) (sym e) reached ];
        marked = λ q j x marked e. elim (cases_eq q i) [
          | inl same ↦
              let both : Some (j, x) ≡ Some (n.section, n.offset) = sym e ∙ place q ∙ ap (λ (r : ℕ). slice_get old.places.items r) same ∙ there in
              let at = same_pair j x n.section n.offset (same_Some (j, x) (n.section, n.offset) both) in
              subst (λ (z : Node). IsKnown new before z) (clear_node n clear ∙ ap (λ (r : ℕ). node_at r n.offset) (sym at.0) ∙ ap (node_at j) (sym at.1)) now_known
          | inr ne ↦ kept (node_at j x) (walk.marked q j x (sym (put.others q ne) ∙ marked) (sym (place q) ∙ e))
        ];
        closed = λ a b h l. kept b (walk.closed a b (sym (ap (λ s. contains node_cmp s a) put.nodes) ∙ h) l);
      }

      came_in : IsCome before old new (Some n)
      came_in = record {
        walk = put_walks;
        keeps = kept;
        known = λ m e s. subst (λ (z : Node). IsKnown new before z) (same_Some n m e) now_known;
        few = put.few;
      }

    pub came : (n : Option Node) (new : Walk) → CameTo n old new → ((m : Node) → n ≡ Some m → (m.it ≡ 0) × (HasStart o m.section m.offset → IsReached o m)) → IsCome before old new n
    came n new (nowhere none same) is = subst (λ (w : Walk). IsCome before old w n) (sym same) (unchanged n (λ m e s. absurd (none-some m (sym none ∙ e))))
    came n new (no_start m some none same) is = subst (λ (w : Walk). IsCome before old w n) (sym same) (unchanged n (λ k e s.
        let one : m ≡ k = same_Some m k (sym some ∙ e) in
        let q = place_of old.places.items (m.section, m.offset) ((walk.starts m.section m.offset).1 (subst (λ (z : Node). HasStart o z.section z.offset) (sym one) s)) in
        none q.0 q.1))
    came n new (put_there m i some there put) is =
        let start : HasStart o m.section m.offset = (walk.starts m.section m.offset).0 (contains_at old.places.items i (m.section, m.offset) there) in
        subst (λ (z : Option Node). IsCome before old new z) (sym some) (came_in new i put m there (is m some).0 ((is m some).1 start))

  -- what control is led to
  away_clear : (n m : Node) → LeadsAway o n m → m.it ≡ 0
  away_clear n m (away i x f a e s) = ap (λ (z : Node). z.it) e

  module _ (n : Node) (old middle new : Walk) (after aimed clear inside : Option Node) (walk : IsWalk o old (Some n)) (ons : (m : Node) → (after ≡ Some m) ↔ LeadsOn o n m) (aims : (m : Node) → (aimed ≡ Some m) ↔ LeadsAway o n m)
      (clears : (m : Node) → (clear ≡ Some m) ↔ ((after ≡ Some m) × (m.it ≡ 0))) (insides : (m : Node) → (inside ≡ Some m) ↔ ((after ≡ Some m) × ((m.it ≡ 0) → ⊥))) (first : CameTo aimed old middle) where
    here : IsReached o n
    here = walk.reached n (next refl)

    pub away_comes : IsCome (Some n) old middle aimed
    away_comes = came (Some n) old walk aimed middle first (λ m e. let l = (aims m).0 e in (away_clear n m l, λ s. led_away n m here l))

    module _ (second : CameTo clear middle new) where
      on_comes : IsCome (Some n) middle new clear
      on_comes = came (Some n) middle away_comes.walk clear new second (λ m e. let p = (clears m).0 e in (p.1, λ s. led_on n m here ((ons m).0 p.0)))

      known_or_next : (m : Node) → Leads o n m → IsKnown new (Some n) m ⊎ (inside ≡ Some m)
      known_or_next m (inl l) = elim (cases_eq m.it 0) [
        | inl z ↦ inl (on_comes.known m ((clears m).1 ((ons m).1 l, z)) (reached_starts o m (led_on n m here l)))
        | inr ne ↦ inr ((insides m).1 ((ons m).1 l, ne))
      ]
      known_or_next m (inr l) = inl (on_comes.keeps m (away_comes.known m ((aims m).1 l) (reached_starts o m (led_away n m here l))))

      pub leads_known : IsLed o n old new inside
      leads_known = record {
        walk = on_comes.walk;
        keeps = λ k known. on_comes.keeps k (away_comes.keeps k known);
        led = known_or_next;
        on = λ m e. (ons m).0 ((insides m).0 e).0;
        few = let a = away_comes.few in let b = on_comes.few in omega arith;
      }

  -- halfwords that are no instruction lead nowhere
  pub led_nowhere : (n : Node) (w : Walk) → IsWalk o w (Some n) → ((m : Node) → Leads o n m → ⊥) → IsLed o n w w None
  led_nowhere n w walk none = record { walk = walk; keeps = λ k known. known; led = λ m l. absurd (none m l); on = λ m e. absurd (none-some m e); few = omega arith }

  -- a node has had its turn
  led_reached : (n m : Node) → IsReached o n → Leads o n m → IsReached o m
  led_reached n m r (inl l) = led_on n m r l
  led_reached n m r (inr l) = led_away n m r l

  on_ahead : (n m : Node) → LeadsOn o n m → n.offset < m.offset
  on_ahead n m (on i f g e s) = let same : m.offset ≡ behind o n.section n.offset = ap (λ (z : Node). z.offset) e in let least = length_least (bytes_of o n.section) n.offset in omega arith

  node_low : (n : Node) → is_object o ≡ true → IsTrue (is_within o any_limit) → IsReached o n → n.offset < 2 ^ 24
  node_low n sound within r =
      let s = reached_starts o n r in
      let inside = start_inside o n.section n.offset s.end sound within s.start in
      omega (arith, inside.before_end, inside.in_bytes, inside.small)

  module _ (n : Node) (old middle new : Walk) (after : Option Node) (sound : is_object o ≡ true) (within : IsTrue (is_within o any_limit)) (led : IsLed o n old middle after) (places : new.places ≡ middle.places) (come : new.come ≡ middle.come) (pending : new.pending ≡ middle.pending)
      (adds : (m : Node) → contains node_cmp new.nodes m ≡ cond (is_eq (node_cmp n m)) true (contains node_cmp middle.nodes m)) where
    in_now : contains node_cmp new.nodes n ≡ true
    in_now = adds n ∙ ap (λ t. cond (is_eq t) true (contains node_cmp middle.nodes n)) (tied_itself node_total n)

    stays : (m : Node) → contains node_cmp middle.nodes m ≡ true → contains node_cmp new.nodes m ≡ true
    stays m h = adds m ∙ go (is_eq (node_cmp n m))
      where
        go : (b : Bool) → cond b true (contains node_cmp middle.nodes m) ≡ true
        go true = refl
        go false = h

    in_cases : (m : Node) → contains node_cmp new.nodes m ≡ true → (n ≡ m) ⊎ (contains node_cmp middle.nodes m ≡ true)
    in_cases m h = go (node_cmp n m) refl (sym (adds m) ∙ h)
      where
        go : (t : Ordering) → node_cmp n m ≡ t → cond (is_eq t) true (contains node_cmp middle.nodes m) ≡ true → (n ≡ m) ⊎ (contains node_cmp middle.nodes m ≡ true)
        go Less e g = inr g
        go Equal e g = inl (node_exact n m e)
        go Greater e g = inr g

    turned_keeps : Keeps middle (Some n) new after
    turned_keeps k (had h) = had (stays k h)
    turned_keeps k (waits q c e z) = waits q (subst (λ (p : PendingParts). Contains p.waiting q) (sym pending) c) (ap (λ p. slice_get p.items q) places ∙ e) z
    turned_keeps k (next e) = subst (λ (z : Node). IsKnown new after z) (same_Some n k e) (had in_now)

    turned_reached : (k : Node) → IsKnown new after k → IsReached o k
    turned_reached k (had h) = elim (in_cases k h) [
      | inl e ↦ subst (λ (z : Node). IsReached o z) e (led.walk.reached n (next refl))
      | inr x ↦ led.walk.reached k (had x)
    ]
    turned_reached k (waits q c e z) = led.walk.reached k (waits q (subst (λ (p : PendingParts). Contains p.waiting q) pending c) (sym (ap (λ p. slice_get p.items q) places) ∙ e) z)
    turned_reached k (next e) = led_on n k (led.walk.reached n (next refl)) (led.on k e)

    turned_closed : (a b : Node) → contains node_cmp new.nodes a ≡ true → Leads o a b → IsKnown new after b
    turned_closed a b h l = elim (in_cases a h) [
      | inl e ↦ elim (led.led b (subst (λ (z : Node). Leads o z b) (sym e) l)) [ inl k ↦ turned_keeps b k | inr is ↦ next is ]
      | inr x ↦ turned_keeps b (led.walk.closed a b x l)
    ]

    pub turned : IsTurned o n old new after
    turned = record {
      walk = record {
        shape = record {
          order = subst (λ p. IsStrictlySortedBy place_cmp p.items) (sym places) led.walk.shape.order;
          few = subst (λ p. length p.items < 2 ^ 32) (sym places) led.walk.shape.few;
          come = ap (λ p. length p.items) come ∙ led.walk.shape.come ∙ ap (λ p. length p.items) (sym places);
          queue = ap (λ (p : PendingParts). p.size) pending ∙ led.walk.shape.queue ∙ ap (λ p. length p.items) (sym places);
        };
        starts = λ j x. subst (λ p. Contains p.items (j, x) ↔ HasStart o j x) (sym places) (led.walk.starts j x);
        reached = turned_reached;
        marked = λ q j x marked e. turned_keeps (node_at j x) (led.walk.marked q j x (sym (ap (λ p. slice_get p.items q) come) ∙ marked) (sym (ap (λ p. slice_get p.items q) places) ∙ e));
        closed = turned_closed;
      };
      keeps = λ k known. turned_keeps k (led.keeps k known);
      low = node_low n sound within (led.walk.reached n (next refl));
      ahead = λ m e. on_ahead n m (led.on m e);
      few =
          let marks : count_by not new.come.items ≡ count_by not middle.come.items = ap (λ p. count_by not p.items) come in
          let waiting : length new.pending.waiting ≡ length middle.pending.waiting = ap (λ (p : PendingParts). length p.waiting) pending in
          let less = led.few in
          omega arith;
    }

  -- nodes one behind another
  pub walked_more : (from : Option Node) (first old new : Walk) (n : Node) (after : Option Node) → IsWalkedOn o from first old (Some n) → IsTurned o n old new after → IsWalkedOn o from first new after
  walked_more from first old new n after walked turned = record {
    walk = turned.walk;
    keeps = λ k known. turned.keeps k (walked.keeps k known);
    few = let a = walked.few in let b = turned.few in omega arith;
  }

  pub nearer : (old new : Walk) (n : Node) (after : Option Node) → IsTurned o n old new after → to_go after < to_go (Some n)
  nearer old new n None turned = let low = turned.low in omega arith
  nearer old new n (Some m) turned = let low = turned.low in let ahead = turned.ahead m refl in omega arith

  -- a start that waited has its turn
  module _ (old taken : Walk) (i j x : ℕ) (rest : List ℕ) (walk : IsWalk o old None) (there : slice_get old.places.items i ≡ Some (j, x)) (waiting : old.pending.waiting ≡ i ∷ rest) (places : taken.places ≡ old.places) (come : taken.come ≡ old.come) (nodes : taken.nodes ≡ old.nodes)
      (left : taken.pending.waiting ≡ rest) (size : taken.pending.size ≡ old.pending.size) where
    took : Keeps old None taken (Some (node_at j x))
    took k (had h) = had (ap (λ s. contains node_cmp s k) nodes ∙ h)
    took k (waits q c e z) = elim (contains_cases i rest q (subst (λ (l : List ℕ). Contains l q) waiting c)) [
      | inl same ↦
          let both : Some (k.section, k.offset) ≡ Some (j, x) = sym e ∙ ap (λ (r : ℕ). slice_get old.places.items r) (sym same) ∙ there in
          let at = same_pair k.section k.offset j x (same_Some (k.section, k.offset) (j, x) both) in
          next (ap (λ (z : Node). Some z) (sym (clear_node k z ∙ ap (λ (r : ℕ). node_at r k.offset) at.0 ∙ ap (node_at j) at.1)))
      | inr r ↦ waits q (subst (λ (l : List ℕ). Contains l q) (sym left) r) (ap (λ p. slice_get p.items q) places ∙ e) z
    ]
    took k (next e) = absurd (none-some k e)

    was : (k : Node) → IsKnown taken (Some (node_at j x)) k → IsKnown old None k
    was k (had h) = had (sym (ap (λ s. contains node_cmp s k) nodes) ∙ h)
    was k (waits q c e z) = waits q (subst (λ (l : List ℕ). Contains l q) (sym waiting) (later (subst (λ (l : List ℕ). Contains l q) left c))) (sym (ap (λ p. slice_get p.items q) places) ∙ e) z
      where
        later : Contains rest q → Contains (i ∷ rest) q
        later = Contains-append_right (i ∷ []) rest q
    was k (next e) = subst (λ (z : Node). IsKnown old None z) (same_Some (node_at j x) k e) (waits i (subst (λ (l : List ℕ). Contains l i) (sym waiting) (contains_here i rest)) there refl)

    pub took_walks : IsWalk o taken (Some (node_at j x))
    took_walks = record {
      shape = record {
        order = subst (λ p. IsStrictlySortedBy place_cmp p.items) (sym places) walk.shape.order;
        few = subst (λ p. length p.items < 2 ^ 32) (sym places) walk.shape.few;
        come = ap (λ p. length p.items) come ∙ walk.shape.come ∙ ap (λ p. length p.items) (sym places);
        queue = size ∙ walk.shape.queue ∙ ap (λ p. length p.items) (sym places);
      };
      starts = λ a b. subst (λ p. Contains p.items (a, b) ↔ HasStart o a b) (sym places) (walk.starts a b);
      reached = λ k known. walk.reached k (was k known);
      marked = λ q a b marked e. took (node_at a b) (walk.marked q a b (sym (ap (λ p. slice_get p.items q) come) ∙ marked) (sym (ap (λ p. slice_get p.items q) places) ∙ e));
      closed = λ a b h l. took b (walk.closed a b (sym (ap (λ s. contains node_cmp s a) nodes) ∙ h) l);
    }

    took_fewer : turns_left taken < turns_left old
    took_fewer =
        let marks : count_by not taken.come.items ≡ count_by not old.come.items = ap (λ p. count_by not p.items) come in
        let now : length taken.pending.waiting ≡ length rest = ap (λ (l : List ℕ). length l) left in
        let before : length old.pending.waiting ≡ length (i ∷ rest) = ap (λ (l : List ℕ). length l) waiting in
        omega arith

    pub start_turned : (new : Walk) → IsWalkedOn o (Some (node_at j x)) taken new None → IsWalkedOn o None old new None
    start_turned new went = record { walk = went.walk; keeps = λ k known. went.keeps k (took k known); few = let a = went.few in let b = took_fewer in omega arith }

    pub start_fewer : (new : Walk) → IsWalkedOn o (Some (node_at j x)) taken new None → turns_left new < turns_left old
    start_fewer new went = let a = went.few in let b = took_fewer in omega arith

  module _ (old taken : Walk) (n : Node) (walk : IsWalk o old None) where
    pub taken_walks : IsTaken old taken (Some n) → IsWalk o taken (Some n)
    taken_walks (none_waits none same empty) = absurd (none-some n (sym none))
    taken_walks (oldest i j x is there waiting places come nodes size) = subst (λ (z : Option Node). IsWalk o taken z) (sym is) (took_walks old taken i j x taken.pending.waiting walk there waiting places come nodes refl size)

    module _ (first new : Walk) (before : IsWalkedOn o None first old None) (went : IsWalkedOn o (Some n) taken new None) where
      pub taken_turned : IsTaken old taken (Some n) → IsWalkedOn o None first new None
      taken_turned (none_waits none same empty) = absurd (none-some n (sym none))
      taken_turned (oldest i j x is there waiting places come nodes size) =
          let went : IsWalkedOn o None old new None = start_turned old taken i j x taken.pending.waiting walk there waiting places come nodes refl size new (subst (λ (z : Option Node). IsWalkedOn o z taken new None) is went) in
          record { walk = went.walk; keeps = λ k known. went.keeps k (before.keeps k known); few = let a = before.few in let b = went.few in omega arith }

      pub taken_fewer : IsTaken old taken (Some n) → turns_left new < turns_left old
      taken_fewer (none_waits none same empty) = absurd (none-some n (sym none))
      taken_fewer (oldest i j x is there waiting places come nodes size) = start_fewer old taken i j x taken.pending.waiting walk there waiting places come nodes refl size new (subst (λ (z : Option Node). IsWalkedOn o z taken new None) is went)

  pub walked_through : (first old new : Walk) (after : Option Node) → IsWalkedOn o None first old None → ((n : Node) → after ≡ Some n → ⊥) → IsTaken old new after → IsWalkedThrough o first new
  walked_through first old new after before never (none_waits none same empty) = subst (λ (w : Walk). IsWalkedThrough o first w) (sym same) (record { walk = before.walk; keeps = before.keeps; none = empty })
  walked_through first old new after before never (oldest i j x is there waiting places come nodes size) = absurd (never (node_at j x) is)

  -- nothing waits
  module _ (w : Walk) (walk : IsWalk o w None) (begun : (n : Node) → IsSeed o n → IsKnown w None n) (none : w.pending.waiting ≡ []) where
    known_had : (n : Node) → IsKnown w None n → contains node_cmp w.nodes n ≡ true
    known_had n (had h) = h
    known_had n (waits q c e z) = absurd (contains_none q (subst (λ (l : List ℕ). Contains l q) none c))
    known_had n (next e) = absurd (none-some n e)

    reached_had : (n : Node) → IsReached o n → contains node_cmp w.nodes n ≡ true
    reached_had _ (named j x section offset is start) = known_had (node_at j x) (begun (node_at j x) (record { section = section; offset = offset; named = is; start = start; clear = refl }))
    reached_had _ (led_on n m r l) = known_had m (walk.closed n m (reached_had n r) (inl l))
    reached_had _ (led_away n m r l) = known_had m (walk.closed n m (reached_had n r) (inr l))

    -- the nodes of the walk in their order
    pub nodes_are : (list : List Node) → list ≡ w.nodes.keys → IsStrictlySortedBy node_cmp w.nodes.keys → AreNodes o list
    nodes_are list e up = subst (λ (l : List Node). AreNodes o l) (sym e) (record {
      exact = λ n. (λ h. walk.reached n (had ((btree_set_contains_iff node_total node_exact w.nodes n).1 h)), λ r. (btree_set_contains_iff node_total node_exact w.nodes n).0 (reached_had n r));
      order = up;
    })

  -- the named places
  pub record HasBegun (claims : List Claim) (w : Walk) : Type 0 where
    pub walk : IsWalk o w None
    pub begun : (c : Claim) → Contains claims c → HasStart o c.section c.offset → IsKnown w None (node_at c.section c.offset)

  pub begun_more : (claims : List Claim) (i : ℕ) (d : Claim) (old new : Walk) → AreNamed o claims → i < length claims → CameTo (Some (node_at (get_or claims i d).section (get_or claims i d).offset)) old new → HasBegun (take i claims) old → HasBegun (take (i + 1) claims) new
  begun_more claims i d old new are l comes h = subst (λ (t : List Claim). HasBegun t new) (sym (take_more claims i d l)) (go (get_or claims i d) (contains_at claims i (get_or claims i d) (slice_get-get_or claims i d l)) comes)
    where
      go : (c : Claim) → Contains claims c → CameTo (Some (node_at c.section c.offset)) old new → HasBegun (take i claims ++ c ∷ []) new
      go c m comes =
          let is_named = ((are c).0 m).0 in
          let come = came None old h.walk (Some (node_at c.section c.offset)) new comes (λ k e.
          let one : node_at c.section c.offset ≡ k = same_Some (node_at c.section c.offset) k e in
          (sym (ap (λ (z : Node). z.it) one), λ s. subst (λ (z : Node). IsReached o z) one (named c.section c.offset c.from_section c.from_offset is_named (subst (λ (z : Node). HasStart o z.section z.offset) (sym one) s)))) in
          record {
            walk = come.walk;
            begun = λ b at s. elim (Contains-append_cases (take i claims) (c ∷ []) b at) [
              | inl x ↦ come.keeps (node_at b.section b.offset) (h.begun b x s)
              | inr x ↦ elim (contains_cases c [] b x) [
                | inl same ↦ come.known (node_at b.section b.offset) (ap (λ (z : Claim). Some (node_at z.section z.offset)) same) s
                | inr r ↦ absurd (contains_none b r)
              ]
            ];
          }

  pub begun_all : (claims : List Claim) (w : Walk) → AreNamed o claims → HasBegun claims w → (n : Node) → IsSeed o n → IsKnown w None n
  begun_all claims w are h n s =
      let claim : Claim = record { section = n.section; offset = n.offset; from_section = s.section; from_offset = s.offset; entry = true } in
      subst (λ (z : Node). IsKnown w None z) (sym (clear_node n s.clear)) (h.begun claim ((are claim).1 (s.named, refl)) s.start)

  -- before the first turn
  module _ (table : BTreeMap (ℕ × ℕ) ℕ) (starts : AreStarts o (λ j x. get place_cmp table (j, x))) (order : IsStrictlySortedBy place_cmp (keys table)) (sound : is_object o ≡ true) (within : IsTrue (is_within o any_limit)) where
    start_there : (j x : ℕ) → Contains (keys table) (j, x) ↔ HasStart o j x
    start_there j x =
        let found = start_found o (λ a b. get place_cmp table (a, b)) starts j x in
        let is = btree_map_contains_key_iff place_total place_exact table (j, x) in (λ c. found.0 (is.1 c), λ h. is.0 (found.1 h))

    pub places_few : length (keys table) < 2 ^ 32
    places_few =
        let nodes : List Node = map start_node (keys table) in
        let rise : IsStrictlySortedBy place_cmp (map place_of_node nodes) = subst (λ (l : List (ℕ × ℕ)). IsStrictlySortedBy place_cmp l) (sym (places_back (keys table))) order in
        let few = few_nodes o nodes sound within rise (λ n c. let p = contains_map start_node (keys table) n c in subst (λ (z : Node). HasStart o z.section z.offset) p.2 ((start_there p.0.0 p.0.1).0 p.1)) in
        let size = code_within o within in
        let same = length-map (keys table) start_node in
        omega arith

    pub first_walk : (w : Walk) (count : ℕ) → w.places.items ≡ keys table → w.come.items ≡ replicate count false → count ≡ length w.places.items → w.pending.waiting ≡ [] → w.pending.size ≡ length w.places.items → ((n : Node) → contains node_cmp w.nodes n ≡ false) → IsWalk o w None
    first_walk w count places come all none size empty = record {
      shape = record {
        order = subst (λ (l : List (ℕ × ℕ)). IsStrictlySortedBy place_cmp l) (sym places) order;
        few = subst (λ (l : List (ℕ × ℕ)). length l < 2 ^ 32) (sym places) places_few;
        come = ap (λ (l : List Bool). length l) come ∙ length-replicate count false ∙ all;
        queue = size;
      };
      starts = λ j x. subst (λ (l : List (ℕ × ℕ)). Contains l (j, x) ↔ HasStart o j x) (sym places) (start_there j x);
      reached = λ n known. absurd (unknown n known);
      marked = λ i j x marked e. absurd (unmarked count i (sym (ap (λ (l : List Bool). slice_get l i) come) ∙ marked));
      closed = λ a b h l. absurd (true≢false (sym h ∙ empty a));
    }
      where
        unknown : (n : Node) → IsKnown w None n → ⊥
        unknown n (had h) = true≢false (sym h ∙ empty n)
        unknown n (waits q c e z) = contains_none q (subst (λ (l : List ℕ). Contains l q) none c)
        unknown n (next e) = none-some n e
