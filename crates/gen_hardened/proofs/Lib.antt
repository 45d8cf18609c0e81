mod CodeSlots
mod InstrClasses
mod KnownInstrs
mod LaidUnits
mod LivePoints
mod ScratchPoints
mod UnitCopies
