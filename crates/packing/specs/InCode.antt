-- What lies in code, as the definitions have it. Assumes nothing.
use Rattle.std.specs.Prelude.{◌≡◌, ⊤, map, Some, None, Option, Result, Ok, Err}
use Rattle.std.specs.Option.{option_map}
use Rattle.script.specs.Figures.{numbers_of}
use Rattle.packing.specs.declared.misfits.Misfit.{Misfit}
use Rattle.packing.specs.declared.misfits.Unfit.{Unfit}
use Rattle.packing.specs.declared.misfits.PackError.{PackError}
use Rattle.packing.specs.declared.misfits.PackError.TheVariants as because
use Rattle.packing.specs.declared.drafts.Draft as code
use Rattle.packing.specs.declared.drafts.Forgery.{Forgery}
use Rattle.packing.specs.declared.files.Opening.{Opening}
use Rattle.packing.specs.Bytes.{Forged, Opened}
use Rattle.packing.specs.Packed.{Draft}

abbrev pub forged_by : Forgery → Forged
forged_by x = record { round = x.round; sender = x.sender; receiver = x.receiver; column = x.column; cell = option_map numbers_of x.cell }

-- the draft that code holds
abbrev pub drawn : code.Draft → Draft
drawn d = record { stage = d.stage; sets = map (λ set. set.0) d.sets.items; forged = map forged_by d.forgeries.items }

-- the block that code opens
abbrev pub opened : Opening → Opened
opened o = record { n = o.n; t = o.t; initial = o.initial.0; proposals = map numbers_of o.proposals.now }

-- a check tells the misfit that the definition finds, if it finds one
abbrev pub IsFound : Option Misfit → Result ⊤ Misfit → Type 0
IsFound found (Ok x) = found ≡ None
IsFound found (Err misfit) = found ≡ Some misfit

-- what is found is what the definition finds, by its meaning
abbrev pub Finds : {T X : Type 0} → (T → X) → Result X Misfit → Result T Misfit → Type 0
Finds means found (Ok x) = found ≡ Ok (means x)
Finds means found (Err misfit) = found ≡ Err misfit

-- what is made is what the definition has, by its meaning, unless memory is wanting
abbrev pub IsMade : {T X : Type 0} → (T → X) → Result X Unfit → Result T PackError → Type 0
IsMade means made (Ok x) = made ≡ Ok (means x)
IsMade means made (Err (because.Unfit unfit)) = made ≡ Err unfit
IsMade means made (Err because.NoMemory) = ⊤
