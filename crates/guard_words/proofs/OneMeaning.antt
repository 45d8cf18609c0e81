-- Words say one thing at most.
use Rattle.std.proofs.Common.{◌≡◌, ◌≤◌, ◌⊎◌, inl, inr, ℕ, false, List, [], ◌∷◌, length, get_or, Option, Some, None, refl, sym, ap, ◌∙◌, subst, arith}
use Rattle.std.specs.Prelude.{All, codes}
use Rattle.std.proofs.lemmas.List.Elements.{All-head, All-tail}
use Rattle.thumb_table.specs.declared.placements.Placement.{Placement}
use Rattle.guard_words.specs.declared.options.OptionName.{OptionName}
use Rattle.guard_words.specs.declared.options.OptionName.TheVariants.{Base, Room, Entry, Argument, Steps, Skip, Seed}
use Rattle.guard_words.specs.declared.options.Options.{Options}
use Rattle.guard_words.specs.declared.settings.Said.{Said}
use Rattle.guard_words.specs.declared.settings.Schedule.{Schedule}
use Rattle.guard_words.specs.declared.settings.Schedule.TheVariants.{Listed, Drawn}
use Rattle.guard_words.specs.Words.{Pair, IsHarden, IsNumber, IsNumberOf, IsPlacedBy, LinkWords, IsLink, Skips, listed, drawn, AreSkips, RunWords, IsRunBy, IsRun, IsList, MakeWords, IsMake, Setting, same_option, value_of, AreArranged}
use Rattle.guard_words.specs.Meanings.{harden, link, run, list, make, IsCommand}
use Rattle.guard_words.specs.Arranged.{value_in, AreOptions, IsPlacing, IsSaid, IsSchedule, IsListed, AreSkippedBy}
use Rattle.guard_words.specs.Tasks.{skips_by}
use Rattle.guard_words.specs.declared.tasks.Skipped.{Skipped}
use Rattle.guard_words.specs.declared.tasks.Skipped.TheVariants as skipped
use Rattle.skip_machine.proofs.PlanSteps.{same_plan}
use Rattle.guard_words.proofs.FirstWords.{first_sign}
use Rattle.guard_words.proofs.NumberTexts.{same_number}
use Rattle.guard_words.proofs.Arrangements.{absent, same_arrangement}

abbrev IsPlacingSetting : Setting → Type 0
IsPlacingSetting s = (s.name ≡ Base) ⊎ (s.name ≡ Room)

-- an option that is neither of the two is not among settings of the two
not_placing : (settings : List Setting) (name : OptionName) → same_option Base name ≡ false → same_option Room name ≡ false → All IsPlacingSetting settings → value_of settings name ≡ None
not_placing [] name no_base no_room all = refl
not_placing (s ∷ settings) name no_base no_room all =
    go (not_placing settings name no_base no_room (All-tail IsPlacingSetting s settings all)) (All-head IsPlacingSetting s settings all)
  where
    go : value_of settings name ≡ None → IsPlacingSetting s → value_of (s ∷ settings) name ≡ None
    go later (inl e) = rw (e, no_base) later
    go later (inr e) = rw (e, no_room) later

placing_of : (settings : List Setting) → All IsPlacingSetting settings → IsPlacing (value_of settings)
placing_of settings all = record {
  entry = not_placing settings Entry refl refl all;
  argument = not_placing settings Argument refl refl all;
  steps = not_placing settings Steps refl refl all;
  skip = not_placing settings Skip refl refl all;
  seed = not_placing settings Seed refl refl all;
}

only_of : (settings : List Setting) → IsPlacing (value_of settings) → All IsPlacingSetting settings
only_of settings p k d below = go (get_or settings k d).name refl
  where
    go : (name : OptionName) → (get_or settings k d).name ≡ name → IsPlacingSetting (get_or settings k d)
    go Base e = inl e
    go Room e = inr e
    go Entry e = absurd (absent settings Entry p.entry k d below e)
    go Argument e = absurd (absent settings Argument p.argument k d below e)
    go Steps e = absurd (absent settings Steps p.steps k d below e)
    go Skip e = absurd (absent settings Skip p.skip k d below e)
    go Seed e = absurd (absent settings Seed p.seed k d below e)

pub placement_is : (at : Placement) (base room : ℕ) → at.base ≡ base → at.room ≡ room → at.stack ≡ 65536 → at ≡ record { base = base; room = room; stack = 65536 }
placement_is at base room b r s =
    let f : ℕ → Placement = λ x. record { base = x; room = at.room; stack = at.stack } in
    let g : ℕ → Placement = λ x. record { base = base; room = x; stack = at.stack } in
    let h : ℕ → Placement = λ x. record { base = base; room = room; stack = x } in
    ap f b ∙ ap g r ∙ ap h s

same_number_of : (o : Option (List ℕ)) (m n : Option ℕ) → IsNumberOf o m → IsNumberOf o n → m ≡ n
same_number_of None None None a b = refl
same_number_of None None (Some n) a b = absurd b
same_number_of None (Some m) n a b = absurd a
same_number_of (Some text) None n a b = absurd a
same_number_of (Some text) (Some m) None a b = absurd b
same_number_of (Some text) (Some m) (Some n) a b = ap (λ k. Some k) (same_number text m n a b)

same_some : (o : Option (List ℕ)) (m n : ℕ) → IsNumberOf o (Some m) → IsNumberOf o (Some n) → m ≡ n
same_some o m n a b = let e = same_number_of o (Some m) (Some n) a b in cc

pub same_placement : (value : OptionName → Option (List ℕ)) (a b : Placement) → IsPlacedBy value a → IsPlacedBy value b → a ≡ b
same_placement value a b h k =
    placement_is a b.base b.room (same_some (value Base) a.base b.base h.base k.base) (same_some (value Room) a.room b.room h.room k.room) h.stack
    ∙ sym (placement_is b b.base b.room refl refl k.stack)

-- two functions that agree at each option
same_values : (f g : OptionName → Option (List ℕ)) → ((name : OptionName) → f name ≡ g name) → f ≡ g
same_values f g h = λ i name. h name i

-- Words that begin with a command's name are that command or none.
pub only_harden : (names : List (List ℕ)) → ((pairs : List Pair) → IsHarden (codes "harden" ∷ names) pairs → ⊥) → IsCommand (codes "harden" ∷ names) → ⊥
only_harden names none (harden pairs, h) = none pairs h
only_harden names none (link l, h) = let e = first_sign (codes "harden") names (link l) h in omega (arith, e)
only_harden names none (run r, h) = let e = first_sign (codes "harden") names (run r) h in omega (arith, e)
only_harden names none (list input, h) = let e = first_sign (codes "harden") names (list input) h in omega (arith, e)
only_harden names none (make m, h) = let e = first_sign (codes "harden") names (make m) h in omega (arith, e)

pub only_link : (rest : List (List ℕ)) → ((l : LinkWords) → IsLink (codes "link" ∷ rest) l → ⊥) → IsCommand (codes "link" ∷ rest) → ⊥
only_link rest none (harden pairs, h) = let e = first_sign (codes "link") rest (harden pairs) h in omega (arith, e)
only_link rest none (link l, h) = none l h
only_link rest none (run r, h) = let e = first_sign (codes "link") rest (run r) h in omega (arith, e)
only_link rest none (list input, h) = let e = first_sign (codes "link") rest (list input) h in omega (arith, e)
only_link rest none (make m, h) = let e = first_sign (codes "link") rest (make m) h in omega (arith, e)

pub only_run : (rest : List (List ℕ)) → ((r : RunWords) → IsRun (codes "run" ∷ rest) r → ⊥) → IsCommand (codes "run" ∷ rest) → ⊥
only_run rest none (harden pairs, h) = let e = first_sign (codes "run") rest (harden pairs) h in omega (arith, e)
only_run rest none (link l, h) = let e = first_sign (codes "run") rest (link l) h in omega (arith, e)
only_run rest none (run r, h) = none r h
only_run rest none (list input, h) = let e = first_sign (codes "run") rest (list input) h in omega (arith, e)
only_run rest none (make m, h) = let e = first_sign (codes "run") rest (make m) h in omega (arith, e)

pub only_list : (rest : List (List ℕ)) → ((input : List ℕ) → IsList (codes "list" ∷ rest) input → ⊥) → IsCommand (codes "list" ∷ rest) → ⊥
only_list rest none (harden pairs, h) = let e = first_sign (codes "list") rest (harden pairs) h in omega (arith, e)
only_list rest none (link l, h) = let e = first_sign (codes "list") rest (link l) h in omega (arith, e)
only_list rest none (run r, h) = let e = first_sign (codes "list") rest (run r) h in omega (arith, e)
only_list rest none (list input, h) = none input h
only_list rest none (make m, h) = let e = first_sign (codes "list") rest (make m) h in omega (arith, e)

pub only_make : (rest : List (List ℕ)) → ((m : MakeWords) → IsMake (codes "make" ∷ rest) m → ⊥) → IsCommand (codes "make" ∷ rest) → ⊥
only_make rest none (harden pairs, h) = let e = first_sign (codes "make") rest (harden pairs) h in omega (arith, e)
only_make rest none (link l, h) = let e = first_sign (codes "make") rest (link l) h in omega (arith, e)
only_make rest none (run r, h) = let e = first_sign (codes "make") rest (run r) h in omega (arith, e)
only_make rest none (list input, h) = let e = first_sign (codes "make") rest (list input) h in omega (arith, e)
only_make rest none (make m, h) = none m h

-- THE LAW OF `list`: its words name one file.
pub same_list : (words : List (List ℕ)) (a b : List ℕ) → IsList words a → IsList words b → a ≡ b
same_list words a b h k = second a b (sym h.words_are ∙ k.words_are)
  where
    second : (x y : List ℕ) → codes "list" ∷ x ∷ [] ≡ codes "list" ∷ y ∷ [] → x ≡ y
    second x y e = cc

-- THE LAW OF `make`: its words say one thing at most.
pub same_make : (words : List (List ℕ)) (a b : MakeWords) → IsMake words a → IsMake words b → a ≡ b
same_make words a b h k =
    let e = sym h.words_are ∙ k.words_are in
    let seeds : h.seed ≡ k.seed = cc in
    let counts : h.count ≡ k.count = cc in
    let f : ℕ → MakeWords = λ x. record { seed = x; count = a.count } in
    let g : ℕ → MakeWords = λ x. record { seed = b.seed; count = x } in
    ap f (same_number k.seed a.seed b.seed (subst (λ t. IsNumber t a.seed) seeds h.seed_is) k.seed_is)
    ∙ ap g (same_number k.count a.count b.count (subst (λ t. IsNumber t a.count) counts h.count_is.number) k.count_is.number)

-- THE LAW OF `link`: its words say one thing at most.
pub same_link : (words : List (List ℕ)) (a b : LinkWords) → IsLink words a → IsLink words b → a ≡ b
same_link words a b h k =
    let behind : h.rest ≡ k.rest = let e = h.words_are in let f = k.words_are in cc in
    let same = same_arrangement k.rest h.settings k.settings (a.output ∷ a.inputs) (b.output ∷ b.inputs) (subst (λ w. AreArranged w h.settings (a.output ∷ a.inputs)) behind h.arranged) k.arranged in
    let files = same.1 in
    let output : a.output ≡ b.output = cc in
    let inputs : a.inputs ≡ b.inputs = cc in
    let at = same_placement (value_of k.settings) a.at b.at (subst (λ ss. IsPlacedBy (value_of ss) a.at) same.0 h.placed) k.placed in
    let f : Placement → LinkWords = λ x. record { at = x; output = a.output; inputs = a.inputs } in
    let g : List ℕ → LinkWords = λ x. record { at = b.at; output = x; inputs = a.inputs } in
    let i : List (List ℕ) → LinkWords = λ x. record { at = b.at; output = b.output; inputs = x } in
    ap f at ∙ ap g output ∙ ap i inputs

same_skips : (skip seed : Option (List ℕ)) (a b : Skips) → AreSkips skip seed a → AreSkips skip seed b → a ≡ b
same_skips None None (listed s) (listed t) h k = ap (λ l. listed l) (h ∙ sym k)
same_skips None None (listed s) (drawn n) h k = absurd k
same_skips None None (drawn n) b h k = absurd h
same_skips (Some text) None (listed s) (listed t) h k = ap (λ l. listed l) (same_plan 2 text s t h k)
same_skips (Some text) None (listed s) (drawn n) h k = absurd k
same_skips (Some text) None (drawn n) b h k = absurd h
same_skips None (Some seed) (drawn m) (drawn n) h k = ap (λ l. drawn l) (same_number seed m n h k)
same_skips None (Some seed) (drawn m) (listed t) h k = absurd k
same_skips None (Some seed) (listed s) b h k = absurd h
same_skips (Some text) (Some seed) (listed s) b h k = absurd h
same_skips (Some text) (Some seed) (drawn n) b h k = absurd h

same_said : (value : OptionName → Option (List ℕ)) (a b : RunWords) → IsRunBy value a → IsRunBy value b → a.inputs ≡ b.inputs → a ≡ b
same_said value a b h k inputs =
    let at = same_placement value a.at b.at h.placed k.placed in
    let entry : a.entry ≡ b.entry = let e = sym h.entry ∙ k.entry in cc in
    let argument = same_number_of (value Argument) a.argument b.argument h.argument k.argument in
    let steps = same_some (value Steps) a.steps b.steps h.steps k.steps in
    let skips = same_skips (value Skip) (value Seed) a.skips b.skips h.skips k.skips in
    let f : Placement → RunWords = λ x. record a { at = x } in
    let g : List ℕ → RunWords = λ x. record { at = b.at; entry = x; argument = a.argument; steps = a.steps; skips = a.skips; inputs = a.inputs } in
    let i : Option ℕ → RunWords = λ x. record { at = b.at; entry = b.entry; argument = x; steps = a.steps; skips = a.skips; inputs = a.inputs } in
    let j : ℕ → RunWords = λ x. record { at = b.at; entry = b.entry; argument = b.argument; steps = x; skips = a.skips; inputs = a.inputs } in
    let l : Skips → RunWords = λ x. record { at = b.at; entry = b.entry; argument = b.argument; steps = b.steps; skips = x; inputs = a.inputs } in
    let m : List (List ℕ) → RunWords = λ x. record { at = b.at; entry = b.entry; argument = b.argument; steps = b.steps; skips = b.skips; inputs = x } in
    ap f at ∙ ap g entry ∙ ap i argument ∙ ap j steps ∙ ap l skips ∙ ap m inputs

-- THE LAW OF `run`: its words say one thing at most.
pub same_run : (words : List (List ℕ)) (a b : RunWords) → IsRun words a → IsRun words b → a ≡ b
same_run words a b h k =
    let behind : h.rest ≡ k.rest = let e = h.words_are in let f = k.words_are in cc in
    let same = same_arrangement k.rest h.settings k.settings a.inputs b.inputs (subst (λ w. AreArranged w h.settings a.inputs) behind h.arranged) k.arranged in
    same_said (value_of k.settings) a b (subst (λ ss. IsRunBy (value_of ss) a) same.0 h.meant) k.meant same.1

-- what the options say that were read of the words of `link`
pub link_is_read : (rest : List (List ℕ)) (settings : List Setting) (files : List (List ℕ)) (o : Options) → AreArranged rest settings files → AreOptions o settings → (l : LinkWords) → IsLink (codes "link" ∷ rest) l →
    IsPlacing (value_in o) × IsPlacedBy (value_in o) l.at × (files ≡ l.output ∷ l.inputs)
link_is_read rest settings files o are options l h =
    let behind : h.rest ≡ rest = let e = h.words_are in cc in
    let same = same_arrangement rest h.settings settings (l.output ∷ l.inputs) files (subst (λ w. AreArranged w h.settings (l.output ∷ l.inputs)) behind h.arranged) are in
    let values = same_values (value_of settings) (value_in o) (λ name. sym (options name)) in (
      subst IsPlacing values (placing_of settings (subst (All IsPlacingSetting) same.0 h.only)),
      subst (λ v. IsPlacedBy v l.at) values (subst (λ ss. IsPlacedBy (value_of ss) l.at) same.0 h.placed),
      sym same.1,
    )

pub is_link : (rest : List (List ℕ)) (settings : List Setting) (files : List (List ℕ)) (o : Options) (l : LinkWords) → AreArranged rest settings files → AreOptions o settings → IsPlacing (value_in o) → IsPlacedBy (value_in o) l.at →
    files ≡ l.output ∷ l.inputs → 1 ≤ length l.inputs → length l.inputs ≤ 16 → IsLink (codes "link" ∷ rest) l
is_link rest settings files o l are options placing placed e some few =
    let values = same_values (value_in o) (value_of settings) options in
    record {
      rest = rest;
      settings = settings;
      words_are = refl;
      arranged = subst (AreArranged rest settings) e are;
      only = only_of settings (subst IsPlacing values placing);
      placed = subst (λ v. IsPlacedBy v l.at) values placed;
      some = some;
      few = few;
    }

-- what the options say that were read of the words of `run`
pub run_is_read : (rest : List (List ℕ)) (settings : List Setting) (files : List (List ℕ)) (o : Options) → AreArranged rest settings files → AreOptions o settings → (r : RunWords) → IsRun (codes "run" ∷ rest) r →
    IsRunBy (value_in o) r × (files ≡ r.inputs)
run_is_read rest settings files o are options r h =
    let behind : h.rest ≡ rest = let e = h.words_are in cc in
    let same = same_arrangement rest h.settings settings r.inputs files (subst (λ w. AreArranged w h.settings r.inputs) behind h.arranged) are in
    let values = same_values (value_of settings) (value_in o) (λ name. sym (options name)) in
    (subst (λ v. IsRunBy v r) values (subst (λ ss. IsRunBy (value_of ss) r) same.0 h.meant), sym same.1)

pub is_run : (rest : List (List ℕ)) (settings : List Setting) (files : List (List ℕ)) (o : Options) (s : Said) (skips : Skips) → AreArranged rest settings files → AreOptions o settings → IsSaid (value_in o) s →
    AreSkips (value_in o Skip) (value_in o Seed) skips → 1 ≤ length files → length files ≤ 16 →
    IsRun (codes "run" ∷ rest) (record { at = s.at; entry = s.entry.now; argument = s.argument; steps = s.steps; skips = skips; inputs = files })
is_run rest settings files o s skips are options said are_skips some few =
    let values = same_values (value_in o) (value_of settings) options in
    let r : RunWords = record { at = s.at; entry = s.entry.now; argument = s.argument; steps = s.steps; skips = skips; inputs = files } in
    let by : IsRunBy (value_in o) r =
    record { placed = said.placed; entry = said.entry; argument = said.argument; steps = said.steps; some_steps = said.some_steps; few_steps = said.few_steps; skips = are_skips } in
    record {
      rest = rest;
      settings = settings;
      words_are = refl;
      arranged = are;
      meant = subst (λ v. IsRunBy v r) values by;
      some = some;
      few = few;
    }

-- a plan that was read of a schedule is what the options say
pub listed_read : (skip seed : Option (List ℕ)) (s : Schedule) → IsSchedule skip seed s → IsListed s → (steps : List ℕ) × AreSkips skip seed (listed steps)
listed_read skip seed (Listed text) h l = (h.0.0, h.1 h.0.0 h.0.1)
listed_read skip seed (Drawn n) h l = absurd l

pub skips_read : (skip seed : Option (List ℕ)) (s : Schedule) (k : Skipped) → IsSchedule skip seed s → AreSkippedBy s k → AreSkips skip seed (skips_by k)
skips_read skip seed (Listed text) (skipped.Listed plan) h are = h.1 plan are
skips_read skip seed (Drawn n) (skipped.Drawn m) h are = subst (λ (k : ℕ). AreSkips skip seed (drawn k)) (sym are) h
skips_read skip seed (Listed text) (skipped.Drawn m) h are = absurd are
skips_read skip seed (Drawn n) (skipped.Listed plan) h are = absurd are
