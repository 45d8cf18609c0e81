-- Each relocation of a hardened form answers one of its object, and branches are long.
use Rattle.std.specs.Prelude.{◌≡◌, ◌≤◌, ℕ, ◌%◌, ◌^◌, Bool, true, false, cond, List, [], ◌∷◌, length, Option, Some, None, slice_get, Contains, refl}
use Rattle.std.specs.List.{zip}
use Rattle.std.proofs.Common.{arith, inl, inr, ap, sym, ◌∙◌, subst}
use Rattle.std.proofs.lemmas.Bool.{both_ways}
use Rattle.std.proofs.lemmas.Option.{same_Some}
use Rattle.std.proofs.lemmas.List.{length-map}
use Rattle.elf_model.specs.declared.objects.Section.{Section}
use Rattle.elf_model.specs.declared.objects.Reloc.{Reloc}
use Rattle.elf_model.specs.declared.objects.RelocKind.{RelocKind}
use Rattle.elf_model.specs.declared.objects.RelocKind.TheVariants.{Abs32, Target1, ThmCall, ThmJump24, MovwAbs, MovtAbs, ThmJump19, ThmJump11, ThmJump8, Other}
use Rattle.elf_model.specs.declared.objects.Home.TheVariants as homes
use Rattle.elf_model.specs.declared.refusals.Refusal.TheVariants as refusal
use Rattle.elf_model.specs.Fields.{word_at}
use Rattle.elf_model.specs.Objects.{ObjectParts, is_code}
use Rattle.elf_model.specs.Ranges.{IsStart, first, next}
use Rattle.elf_model.proofs.Elements.{contains_cases, contains_here, contains_later, contains_none}
use Rattle.code_ranges.specs.CodeRanges.{holds_code}
use Rattle.thumb_instr.specs.declared.instructions.Instr.{Instr}
use Rattle.thumb_instr.specs.declared.instructions.Instr.TheVariants as instr
use Rattle.reloc_places.specs.Starts.{bytes_of, IsDataWord, decoded_at}
use Rattle.reloc_places.specs.Relocations.{may_fail, is_word, is_jump, is_bl, is_b, fits_kind, number_in, addend}
use Rattle.thumb_table.specs.Links.{reach}
use Rattle.flow_recover.specs.declared.flows.Point.{Point}
use Rattle.flow_recover.specs.declared.flows.PoolWord.{PoolWord}
use Rattle.flow_recover.specs.Flows.{FlowParts}
use Rattle.flow_recover.specs.FlowFaults.{no_word}
use Rattle.flow_recover.specs.Points.{place_of_point}
use Rattle.hardened_form.specs.Places.{UnitPlace, Places as UnitPlaces}
use Rattle.hardened_form.specs.Standing.{units}
use Rattle.hardened_form.specs.Code.{word_number, reloc_of}
use Rattle.hardened_form.specs.Turns.{zero_addend, new_addend}
use Rattle.hardened_form.specs.Carriers.{Carrier, IsCarrier, IsCarried, kind_on}
use Rattle.hardened_form.specs.Relocs.{StandsFor, IsWordOf, IsNewReloc, of_data, of_step, of_word}
use Rattle.sim_images.specs.Counterparts.{SameSense, Answers}
use Rattle.sim_images.proofs.HomesAlike.{code_kept}
use Rattle.sim_answers.specs.Units.{code_end}
use Rattle.sim_answers.specs.Forms.{IsFormOf, new_places}
use Rattle.sim_answers.proofs.Accepted.{not_wrong}
use Rattle.sim_answers.proofs.Pairs.{zip_left}
use Rattle.sim_answers.proofs.PointPlaces.{at_point, further, unit_even}
use Rattle.sim_answers.proofs.SectionsStay.{sections_stay}
use Rattle.sim_answers.proofs.Placed.{reloc_at_is, true_at_last, word_kind, word_no_jump, word_addend}
use Rattle.sim_answers.proofs.Answered.{answered}
use Rattle.sim_answers.proofs.DataAnswered.{word_in_data, data_word, code_of_point, word_listed}

-- with what stands beside in a third list
zip_between : {A B C : Type 0} (xs : List A) (ys : List B) (zs : List C) → length xs ≡ length ys → (x : A) (z : C) → Contains (zip xs zs) (x, z) → (y : B) × Contains (zip (zip xs ys) zs) ((x, y), z)
zip_between [] ys zs l x z c = absurd (contains_none (x, z) c)
zip_between (a ∷ xs) [] zs l x z c = absurd (omega arith)
zip_between (a ∷ xs) (b ∷ ys) [] l x z c = absurd (contains_none (x, z) c)
zip_between (a ∷ xs) (b ∷ ys) (d ∷ zs) l x z c =
    elim (contains_cases (a, d) (zip xs zs) (x, z) c) [
      | inl e ↦ (b, subst (λ (q : _). Contains (((a, b), d) ∷ zip (zip xs ys) zs) ((q.0, b), q.1)) e (contains_here ((a, b), d) (zip (zip xs ys) zs)))
      | inr r ↦ let h = zip_between xs ys zs (omega arith) x z r in (h.0, contains_later ((a, b), d) (zip (zip xs ys) zs) ((x, h.0), z) h.1)
    ]

-- what no branch and no call carries is of no branch
no_jump_fits : (k : RelocKind) (i : Instr) → is_bl i ≡ false → is_b false i ≡ false → is_b true i ≡ false → is_jump k ≡ true → fits_kind k true i ≡ true → ⊥
no_jump_fits Abs32 i a b c j f = both_ways false refl j
no_jump_fits Target1 i a b c j f = both_ways false refl j
no_jump_fits MovwAbs i a b c j f = both_ways false refl j
no_jump_fits MovtAbs i a b c j f = both_ways false refl j
no_jump_fits (Other n) i a b c j f = both_ways false refl j
no_jump_fits ThmCall i a b c j f = both_ways (is_bl i) a f
no_jump_fits ThmJump24 i a b c j f = both_ways (is_b false i) b f
no_jump_fits ThmJump19 i a b c j f = both_ways (is_b true i) c f
no_jump_fits ThmJump11 i a b c j f = both_ways false refl f
no_jump_fits ThmJump8 i a b c j f = both_ways false refl f

long_branch : (b : Bool) → 2 ^ 20 ≤ reach (cond b ThmJump19 ThmJump24)
long_branch true = omega arith
long_branch false = omega arith

long_reach : (k : RelocKind) (i : Instr) → is_jump (kind_on i k) ≡ true → fits_kind (kind_on i k) true i ≡ true → 2 ^ 20 ≤ reach (kind_on i k)
long_reach k (instr.Call i) j f = omega arith
long_reach k (instr.Branch i) j f = long_branch (may_fail i.cond)
long_reach k i j f = absurd (no_jump_fits k i refl refl refl j f)

branch_jumps : (b : Bool) → is_jump (cond b ThmJump19 ThmJump24) ≡ true
branch_jumps true = refl
branch_jumps false = refl

same_kind : (k : RelocKind) (i : Instr) → is_jump (kind_on i k) ≡ false → kind_on i k ≡ k
same_kind k (instr.Call i) j = absurd (both_ways true j refl)
same_kind k (instr.Branch i) j = absurd (both_ways (is_jump (cond (may_fail i.cond) ThmJump19 ThmJump24)) j (branch_jumps (may_fail i.cond)))
same_kind k i j = refl

fits_no_word : (k : RelocKind) (long : Bool) (i : Instr) → fits_kind k long i ≡ true → is_word k ≡ false
fits_no_word Abs32 long i f = absurd (both_ways false refl f)
fits_no_word Target1 long i f = absurd (both_ways false refl f)
fits_no_word ThmCall long i f = refl
fits_no_word ThmJump24 long i f = refl
fits_no_word MovwAbs long i f = refl
fits_no_word MovtAbs long i f = refl
fits_no_word ThmJump19 long i f = refl
fits_no_word ThmJump11 long i f = refl
fits_no_word ThmJump8 long i f = refl
fits_no_word (Other n) long i f = refl

instr_addend : (bytes : List ℕ) (r : Reloc) → is_word r.kind ≡ false → addend bytes r ≡ number_in (decoded_at bytes r.offset 0)
instr_addend bytes r e = ap (λ (b : Bool). cond b (word_at bytes r.offset) (number_in (decoded_at bytes r.offset 0))) e

start_even : (bytes : List ℕ) (a end x : ℕ) → a % 2 ≡ 0 → IsStart bytes a end x → x % 2 ≡ 0
start_even bytes a end x e (first l) = e
start_even bytes a end _ e (next x at l) = further bytes x (start_even bytes a end x e at)

module _ (o h : ObjectParts) (f : FlowParts) (p : UnitPlaces) (carriers : List (List Carrier)) (is : IsFormOf o h f p carriers) where
  -- an instruction that carries the relocation of its point
  pub record OfStep (k : ℕ) (r : Reloc) (x : Point) (c : Carrier) (q : Reloc) : Type 0 where
    pub listed : Contains f.points x
    pub unit : UnitPlace
    pub placed : Contains (units f p) (x, unit)
    pub carried : IsCarried o h r x.section unit c
    pub step : IsStart (bytes_of h x.section) unit.start (code_end unit) c.at
    pub section : r.section ≡ x.section

  pub of_step_is : (k : ℕ) (r : Reloc) (x : Point) (c : Carrier) (q : Reloc) → IsCarrier f carriers x c → x.reloc ≡ Some k → StandsFor o is.form.lists k r (kind_on c.instr r.kind) c.at q → OfStep k r x c q
  of_step_is k r x c q carrier point stands =
      let listed = zip_left f.points carriers (x, carrier.all) carrier.unit in
      let long : length f.points ≡ length p.units = sym (is.form.tables.lists.items.units ∙ length-map f.points place_of_point) in
      let u = zip_between f.points p.units carriers long x carrier.all carrier.unit in
      record {
        listed = listed;
        unit = u.0;
        placed = zip_left (units f p) carriers ((x, u.0), carrier.all) u.1;
        carried = is.form.carried.each x u.0 carrier.all c k r u.1 carrier.one point stands.there;
        step = is.units.steps x u.0 carrier.all c k r u.1 carrier.one point stands.there;
        section = (reloc_at_is o x.section x.offset k r (sym (at_point o f is.flow x listed).reloc ∙ point) stands.there).0;
      }

  -- a word of code that points load is a word of data
  pub pool_word : (w : PoolWord) → Contains f.words w → (IsDataWord o w.section w.offset → ⊥) → ⊥
  pool_word w c none =
      let loads = (is.flow.words w).0 c in
      is.flow.no_fault refusal.IntoMiddle loads.node.section loads.node.offset
      (no_word loads.node loads.literal loads.loads (λ v e at.
      let same : v ≡ w.offset = same_Some v w.offset (sym e ∙ loads.offset) in
      none (subst (λ (j : ℕ). IsDataWord o j w.offset) (sym loads.section) (subst (λ (a : ℕ). IsDataWord o loads.node.section a) same at))) refl refl refl)

  pub of_word_kind : (k : ℕ) (r : Reloc) (w : PoolWord) → Contains f.words w → w.reloc ≡ Some k → slice_get o.relocs k ≡ Some r → is_word r.kind ≡ true
  of_word_kind k r w c point there =
      let loads = (is.flow.words w).0 c in
      let place = reloc_at_is o w.section w.offset k r (sym loads.reloc ∙ point) there in
      true_at_last (is_word r.kind) (λ wrong. not_wrong o f is.flow k r there (λ right. pool_word w c (λ at.
      wrong (word_kind o r (subst (λ (j : ℕ). IsDataWord o j r.offset) (sym place.0) (subst (λ (a : ℕ). IsDataWord o w.section a) (sym place.1) at)) right.place))))

  -- the number in its place
  pub step_number : (k : ℕ) (r : Reloc) (x : Point) (c : Carrier) (q : Reloc) → IsCarrier f carriers x c → x.reloc ≡ Some k → StandsFor o is.form.lists k r (kind_on c.instr r.kind) c.at q
      → addend (bytes_of h q.section) q ≡ cond (is_jump r.kind) (zero_addend r) (new_addend o r)
  step_number k r x c q carrier point stands =
      let s = of_step_is k r x c q carrier point stands in
      let no_word : is_word q.kind ≡ false = ap is_word stands.kind ∙ fits_no_word (kind_on c.instr r.kind) true c.instr s.carried.fits in
      let section : q.section ≡ x.section = stands.section ∙ s.section in
      instr_addend (bytes_of h q.section) q no_word
      ∙ (ap number_in (ap (λ (j : ℕ). decoded_at (bytes_of h j) q.offset 0) section ∙ (ap (λ (a : ℕ). decoded_at (bytes_of h x.section) a 0) stands.offset ∙ s.carried.there)) ∙ s.carried.number)

  -- what stands for a point's relocation answers it
  pub step_answers : (k : ℕ) (r : Reloc) (x : Point) (c : Carrier) (q : Reloc) → IsCarrier f carriers x c → x.reloc ≡ Some k → StandsFor o is.form.lists k r (kind_on c.instr r.kind) c.at q → SameSense r q × Answers o h (new_places is) r q
  step_answers k r x c q carrier point stands =
      let s = of_step_is k r x c q carrier point stands in
      let sense : is_jump q.kind ≡ is_jump r.kind = ap is_jump stands.kind ∙ s.carried.sense in
      let number = step_number k r x c q carrier point stands in (
        record { jump = sense; kind = λ n. stands.kind ∙ same_kind r.kind c.instr (s.carried.sense ∙ n) },
        answered o h f p carriers is k r (kind_on c.instr r.kind) c.at q stands (inr (record { point = x; listed = s.listed; reloc = point })) sense number,
      )

  -- so does what stands for a word's
  pub word_answers : (k : ℕ) (r : Reloc) (w : PoolWord) (y : ℕ) (q : Reloc) → IsWordOf f p w y → w.reloc ≡ Some k → StandsFor o is.form.lists k r r.kind y q → SameSense r q × Answers o h (new_places is) r q
  word_answers k r w y q word point stands =
      let listed = word_listed o h f p carriers is w y word in
      let kind = of_word_kind k r w listed point stands.there in
      let place = reloc_at_is o w.section w.offset k r (sym ((is.flow.words w).0 listed).reloc ∙ point) stands.there in
      let none = word_no_jump r.kind kind in
      let number : word_at (bytes_of h w.section) y ≡ new_addend o r = is.form.words w y word ∙ ap (word_number o w) (ap (reloc_of o) point ∙ stands.there) in (
        record { jump = ap is_jump stands.kind; kind = λ n. stands.kind },
        answered o h f p carriers is k r r.kind y q stands (inl none) (ap is_jump stands.kind)
            (word_addend (bytes_of h q.section) q (ap is_word stands.kind ∙ kind)
            ∙ (ap (λ (j : ℕ). word_at (bytes_of h j) q.offset) (stands.section ∙ place.0) ∙ (ap (word_at (bytes_of h w.section)) stands.offset
            ∙ (number ∙ sym (ap (λ (b : Bool). cond b (zero_addend r) (new_addend o r)) none))))),
      )

  pub each_answers : (q : Reloc) → IsNewReloc o f p carriers is.form.lists q → (k : ℕ) × (r : Reloc) × (slice_get o.relocs k ≡ Some r) × SameSense r q × Answers o h (new_places is) r q
  each_answers q (of_data k r s at other stands) = (k, r, stands.there, record { jump = ap is_jump stands.kind; kind = λ n. stands.kind }, data_word o h f p carriers is k r s q at other stands)
  each_answers q (of_step k r x c carrier point stands) = let a = step_answers k r x c q carrier point stands in (k, r, stands.there, a.0, a.1)
  each_answers q (of_word k r w y word point stands) = let a = word_answers k r w y q word point stands in (k, r, stands.there, a.0, a.1)

  -- a code section of the object is one of its form
  pub code_section : (j : ℕ) → holds_code (slice_get o.sections j) ≡ true → (t : Section) × (slice_get h.sections j ≡ Some t) × (is_code t ≡ true)
  code_section j code = go (slice_get h.sections j) refl (code_kept o h (sections_stay o h f p carriers is) (homes.Section j) ∙ code)
    where
      go : (t : Option Section) → slice_get h.sections j ≡ t → holds_code (slice_get h.sections j) ≡ true → (t : Section) × (slice_get h.sections j ≡ Some t) × (is_code t ≡ true)
      go None e c = absurd (both_ways false refl (sym (ap holds_code e) ∙ c))
      go (Some t) e c = (t, e, sym (ap holds_code e) ∙ c)

  pub each_long : (q : Reloc) → IsNewReloc o f p carriers is.form.lists q → is_jump q.kind ≡ true → (2 ^ 20 ≤ reach q.kind) × (q.offset % 2 ≡ 0)
  each_long q (of_data k r s at other stands) jump =
      absurd (both_ways (is_jump q.kind) (ap is_jump stands.kind ∙ word_no_jump r.kind (word_in_data o h f p carriers is k r s stands.there at other)) jump)
  each_long q (of_word k r w y word point stands) jump =
      absurd (both_ways (is_jump q.kind) (ap is_jump stands.kind ∙ word_no_jump r.kind (of_word_kind k r w (word_listed o h f p carriers is w y word) point stands.there)) jump)
  each_long q (of_step k r x c carrier point stands) jump =
      let s = of_step_is k r x c q carrier point stands in
      let t = code_section x.section (code_of_point o h f p carriers is x s.listed) in
      let even = unit_even o h f p carriers is x s.unit t.0 s.placed t.1 t.2 in (
        subst (λ (k : RelocKind). 2 ^ 20 ≤ reach k) (sym stands.kind) (long_reach r.kind c.instr (sym (ap is_jump stands.kind) ∙ jump) s.carried.fits),
        ap (λ (n : ℕ). n % 2) stands.offset ∙ start_even (bytes_of h x.section) s.unit.start (code_end s.unit) c.at even s.step,
      )
