-- A point and its unit stand in the two images.
use Rattle.elf_model.specs.Ranges.{length_at}
use Rattle.reloc_places.specs.Starts.{bytes_of}
use Rattle.sim_images.specs.PairLaws.{PointsMeet}
use Rattle.sim_images.proofs.Sequences.{one_stands, sequence_stands}

pub points_meet : PointsMeet
points_meet ins outs at moved image hard sound hard_sound answers is hard_is i j o h p q here there x y z end it instr steps start given row sequence =
    let a = one_stands ins at image sound is i j o p here x end it instr start given in
    record {
      linked = a.now;
      mark = a.mark;
      width = length_at (bytes_of o j) x;
      is = a.is;
      point = a.there;
      unit = sequence_stands outs at hard hard_sound hard_is i j h q there y z steps sequence;
    }
