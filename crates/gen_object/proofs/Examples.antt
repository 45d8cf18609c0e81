-- Generated objects, written out.
use Rattle.std.specs.Prelude.{◌≡◌, [], ◌∷◌, refl, codes}
use Rattle.std.specs.Fmt.{digits}
use Rattle.elf_model.specs.Objects.{ObjectParts}
use Rattle.elf_model.specs.declared.objects.RelocKind.TheVariants.{ThmCall}
use Rattle.elf_model.specs.declared.objects.Home.TheVariants as home
use Rattle.elf_model.specs.Constants.{progbits, local, global, notype, func}
use Rattle.gen_object.specs.Generated.{generated}

abbrev one : ObjectParts
one = record {
  sections =
      record {
        name = codes ".text";
        kind = progbits;
        flags = 6;
        align = 4;
        entry = 0;
        size = 10;
        bytes =
            0x10 ∷ 0xB5 ∷ 0x07 ∷ 0x21 ∷ 0x48 ∷ 0x43 ∷ 0x40 ∷ 0x42 ∷ 0x10 ∷ 0xBD ∷ [];
      } ∷ [];
  symbols =
      record { name = codes "$t"; value = 0; size = 0; bind = local; kind = notype; other = 0; home = home.Section 0 }
      ∷ record { name = codes "f0"; value = 1; size = 10; bind = global; kind = func; other = 0; home = home.Section 0 }
      ∷ [];
  relocs = [];
  flags = 0x05000000;
}

is_one : generated 0 1 ≡ one
unfolding digits
is_one = refl

abbrev three : ObjectParts
three = record {
  sections =
      record {
        name = codes ".text";
        kind = progbits;
        flags = 6;
        align = 4;
        entry = 0;
        size = 38;
        bytes =
            0x10 ∷ 0xB5 ∷ 0x07 ∷ 0x21 ∷ 0xCA ∷ 0x43 ∷ 0xC2 ∷ 0x00 ∷ 0xFF ∷ 0xF7 ∷ 0xFE ∷ 0xFF ∷ 0x10 ∷ 0xBD
            ∷ 0x10 ∷ 0xB5 ∷ 0xCA ∷ 0x43 ∷ 0x01 ∷ 0x30 ∷ 0x40 ∷ 0x42 ∷ 0xFF ∷ 0xF7 ∷ 0xFE ∷ 0xFF ∷ 0x10 ∷ 0xBD
            ∷ 0x10 ∷ 0xB5 ∷ 0x48 ∷ 0x43 ∷ 0x01 ∷ 0x30 ∷ 0x01 ∷ 0x30 ∷ 0x10 ∷ 0xBD ∷ [];
      } ∷ [];
  symbols =
      record { name = codes "$t"; value = 0; size = 0; bind = local; kind = notype; other = 0; home = home.Section 0 }
      ∷ record { name = codes "f0"; value = 1; size = 14; bind = global; kind = func; other = 0; home = home.Section 0 }
      ∷ record { name = codes "f1"; value = 15; size = 14; bind = global; kind = func; other = 0; home = home.Section 0 }
      ∷ record { name = codes "f2"; value = 29; size = 10; bind = global; kind = func; other = 0; home = home.Section 0 }
      ∷ [];
  relocs = record { section = 0; offset = 8; kind = ThmCall; symbol = 2 } ∷ record { section = 0; offset = 22; kind = ThmCall; symbol = 3 } ∷ [];
  flags = 0x05000000;
}

is_three : generated 7 3 ≡ three
unfolding digits
is_three = refl
