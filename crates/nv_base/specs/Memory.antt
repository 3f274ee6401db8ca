-- Want of memory, as contracts see it: all its witnesses are one value.
use Rattle.nv_base.specs.declared.fault.Fault.{Fault}
use Rattle.nv_base.specs.declared.fault.Fault.TheVariants.{OutOfMemory}
use Rattle.nv_base.specs.declared.memory.NoMemory.{NoMemory}

-- the one witness of want of memory
abbrev pub no_memory : NoMemory
no_memory = record { refused = tt }

-- the fault of want of memory, with that witness
abbrev pub out_of_memory : Fault
out_of_memory = OutOfMemory no_memory
