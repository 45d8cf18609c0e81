-- The command lines that are understood.
use Rattle.std.specs.Prelude.{◌≡◌, ◌≢◌, ◌<◌, ◌≤◌, ◌⊎◌, ◌^◌, if◌then◌else◌, ℕ, Bool, true, false, List, [], ◌∷◌, ◌++◌, length, codes, All, AllPairs, Option, Some, None, ⊤}
use Rattle.std.specs.Fmt.{decimal}
use Rattle.std.specs.Int.{IsInRange}
use Rattle.std.specs.List.{flat_map}
use Rattle.std.specs.Str.Parse.{digits_value}
use Rattle.skip_machine.specs.Plans.{IsPlanText}
use Rattle.thumb_table.specs.Layouts.{IsPlacement}
use Rattle.thumb_table.specs.declared.placements.Placement.{Placement}
use Rattle.guard_words.specs.declared.options.OptionName.{OptionName}
use Rattle.guard_words.specs.declared.options.OptionName.TheVariants.{Base, Room, Entry, Argument, Steps, Skip, Seed}

-- an input and the output that is made of it, by their names
pub record Pair : Type 0 where
  pub input : List ℕ
  pub output : List ℕ

-- A file's name is not empty and does not begin with a dash, and so is the value of an option.
abbrev pub IsFileName : List ℕ → Type 0
IsFileName [] = ⊥
IsFileName (c ∷ cs) = c ≢ 45

abbrev pub names_of : Pair → List (List ℕ)
names_of p = p.input ∷ p.output ∷ []

-- harden IN OUT [IN OUT ..], with at most 16 inputs
pub record IsHarden (words : List (List ℕ)) (pairs : List Pair) : Type 0 where
  pub words_are : words ≡ codes "harden" ∷ flat_map names_of pairs
  pub some : 1 ≤ length pairs
  pub few : length pairs ≤ 16
  pub inputs : All (λ p. IsFileName p.input) pairs
  pub outputs : All (λ p. IsFileName p.output) pairs

abbrev pub word_of : OptionName → List ℕ
word_of Base = codes "--base"
word_of Room = codes "--room"
word_of Entry = codes "--entry"
word_of Argument = codes "--arg"
word_of Steps = codes "--steps"
word_of Skip = codes "--skip"
word_of Seed = codes "--seed"

-- an option with its value, joined to one word or in two words
pub record Setting : Type 0 where
  pub name : OptionName
  pub value : List ℕ
  pub joined : Bool

-- --x=v or --x v
abbrev pub spelled : Setting → List (List ℕ)
spelled s = if s.joined then (word_of s.name ++ (codes "=" ++ s.value)) ∷ [] else word_of s.name ∷ s.value ∷ []

-- Options in any order, each at most once, and behind them the files.
pub record AreArranged (words : List (List ℕ)) (settings : List Setting) (files : List (List ℕ)) : Type 0 where
  pub words_are : words ≡ flat_map spelled settings ++ files
  pub once : AllPairs (λ s t. s.name ≢ t.name) settings
  pub values : All (λ s. IsFileName s.value) settings
  pub names : All IsFileName files

abbrev pub same_option : OptionName → OptionName → Bool
same_option Base Base = true
same_option Room Room = true
same_option Entry Entry = true
same_option Argument Argument = true
same_option Steps Steps = true
same_option Skip Skip = true
same_option Seed Seed = true
same_option _ _ = false

-- the value of an option, if it is there
abbrev pub value_of : List Setting → OptionName → Option (List ℕ)
value_of [] name = None
value_of (s ∷ settings) name = if same_option s.name name then Some s.value else value_of settings name

-- 0 to 9 and a to f
abbrev pub IsHexDigit : ℕ → Type 0
IsHexDigit c = IsInRange 48 57 c ⊎ IsInRange 97 102 c

-- 0x and one to eight digits
pub record IsHexadecimal (text : List ℕ) (n : ℕ) : Type 0 where
  pub digits : List ℕ
  pub text_is : text ≡ codes "0x" ++ digits
  pub some : 1 ≤ length digits
  pub few : length digits ≤ 8
  pub each : All IsHexDigit digits
  pub value : n ≡ digits_value 16 digits

-- a number below 2^32, decimal without a leading zero or hexadecimal
abbrev pub IsNumber : List ℕ → ℕ → Type 0
IsNumber text n = ((n < 2 ^ 32) × (text ≡ decimal n)) ⊎ IsHexadecimal text n

-- the number of an option that may be absent
abbrev pub IsNumberOf : Option (List ℕ) → Option ℕ → Type 0
IsNumberOf None None = ⊤
IsNumberOf (Some text) (Some n) = IsNumber text n
IsNumberOf _ _ = ⊥

-- Where `--base` and `--room` place an image; the stack has 65,536 bytes.
pub record IsPlacedBy (value : OptionName → Option (List ℕ)) (at : Placement) : Type 0 where
  pub base : IsNumberOf (value Base) (Some at.base)
  pub room : IsNumberOf (value Room) (Some at.room)
  pub stack : at.stack ≡ 65536
  pub sound : IsPlacement at

-- what the words of `link` say
pub record LinkWords : Type 0 where
  pub at : Placement
  pub output : List ℕ
  pub inputs : List (List ℕ)

-- link --base B --room R OUT IN [IN ..], with at most 16 inputs
pub record IsLink (words : List (List ℕ)) (l : LinkWords) : Type 0 where
  pub rest : List (List ℕ)
  pub settings : List Setting
  pub words_are : words ≡ codes "link" ∷ rest
  pub arranged : AreArranged rest settings (l.output ∷ l.inputs)
  pub only : All (λ s. (s.name ≡ Base) ⊎ (s.name ≡ Room)) settings
  pub placed : IsPlacedBy (value_of settings) l.at
  pub some : 1 ≤ length l.inputs
  pub few : length l.inputs ≤ 16

-- which steps are skipped: those that are listed, or those that are drawn from a seed
pub data Skips : Type 0 where
  listed : List ℕ → Skips
  drawn : ℕ → Skips

-- what `--skip` and `--seed` say, of which one may be there; without both no step is skipped
abbrev pub AreSkips : Option (List ℕ) → Option (List ℕ) → Skips → Type 0
AreSkips None None (listed steps) = steps ≡ []
AreSkips (Some list) None (listed steps) = IsPlanText 2 list steps
AreSkips None (Some seed) (drawn n) = IsNumber seed n
AreSkips _ _ _ = ⊥

-- what the words of `run` say
pub record RunWords : Type 0 where
  pub at : Placement
  pub entry : List ℕ
  pub argument : Option ℕ
  pub steps : ℕ
  pub skips : Skips
  pub inputs : List (List ℕ)

-- what the options of `run` say
pub record IsRunBy (value : OptionName → Option (List ℕ)) (r : RunWords) : Type 0 where
  pub placed : IsPlacedBy value r.at
  pub entry : value Entry ≡ Some r.entry
  pub argument : IsNumberOf (value Argument) r.argument
  pub steps : IsNumberOf (value Steps) (Some r.steps)
  pub some_steps : 1 ≤ r.steps
  pub few_steps : r.steps ≤ 10000000
  pub skips : AreSkips (value Skip) (value Seed) r.skips

-- run --base B --room R --entry NAME [--arg N] --steps N [--skip LIST | --seed S] IN [IN ..], with at most 16 inputs
pub record IsRun (words : List (List ℕ)) (r : RunWords) : Type 0 where
  pub rest : List (List ℕ)
  pub settings : List Setting
  pub words_are : words ≡ codes "run" ∷ rest
  pub arranged : AreArranged rest settings r.inputs
  pub meant : IsRunBy (value_of settings) r
  pub some : 1 ≤ length r.inputs
  pub few : length r.inputs ≤ 16

-- list IN
pub record IsList (words : List (List ℕ)) (input : List ℕ) : Type 0 where
  pub words_are : words ≡ codes "list" ∷ input ∷ []
  pub name : IsFileName input

-- how many functions `make` may make
pub record IsCount (text : List ℕ) (n : ℕ) : Type 0 where
  pub number : IsNumber text n
  pub some : 1 ≤ n
  pub few : n ≤ 4000

-- what the words of `make` say
pub record MakeWords : Type 0 where
  pub seed : ℕ
  pub count : ℕ

-- make SEED COUNT
pub record IsMake (words : List (List ℕ)) (m : MakeWords) : Type 0 where
  pub seed : List ℕ
  pub count : List ℕ
  pub words_are : words ≡ codes "make" ∷ seed ∷ count ∷ []
  pub seed_is : IsNumber seed m.seed
  pub count_is : IsCount count m.count
