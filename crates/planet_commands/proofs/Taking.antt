-- From the bytes that were read to the value that they say.
use Rattle.std.proofs.Common.{◌≡◌, ℕ, List, length, Option, Some, None, Result, Ok, Err, Bool, true, false, nat_lt, if◌then◌else◌, ap, ◌∙◌}
use Rattle.node_io.specs.FileMaps.{file_at}
use Rattle.node_io.specs.FileStates.{FilesState}
use Rattle.planet_commands.specs.declared.status.Refusal.{Refusal}
use Rattle.planet_commands.specs.declared.status.Cause.{Cause}
use Rattle.planet_commands.specs.declared.status.Cause.TheVariants.{Done, Usage, Refused, ReadFault, WriteFault, LinkFault, SpawnFault, NoMemory, NodesFailed}
use Rattle.planet_commands.specs.Said.{Said, outside, says, said_at, said_in, all_of}
use Rattle.planet_commands.specs.Takes.{Refuses, Reads, Takes}

within_says : {A : Type 0} (long : Bool) (read : List ℕ → Said A) (bytes taken : List ℕ) (t : Refusal) → (if long then outside t else says bytes) ≡ says taken
    → (if long then outside t else read bytes) ≡ read taken
within_says true read bytes taken t e = absurd (cc)
within_says false read bytes taken t e = let same : bytes ≡ taken = cc in ap read same

at_says : {A : Type 0} (limit : ℕ) (read : List ℕ → Said A) (file : Option (List ℕ)) (bytes : List ℕ) → said_at limit all_of file ≡ says bytes → said_at limit read file ≡ read bytes
at_says limit read None bytes e = absurd (cc)
at_says limit read (Some all) bytes e = within_says (nat_lt limit (length all)) read all bytes _ e

within_outside : {A : Type 0} (long : Bool) (said : Said A) (bytes : List ℕ) (t r : Refusal) → (if long then outside t else says bytes) ≡ outside r → (if long then outside t else said) ≡ outside r
within_outside true said bytes t r e = let same : t ≡ r = cc in ap outside same
within_outside false said bytes t r e = absurd (cc)

at_outside : {A : Type 0} (limit : ℕ) (read : List ℕ → Said A) (file : Option (List ℕ)) (r : Refusal) → said_at limit all_of file ≡ outside r → said_at limit read file ≡ outside r
at_outside limit read None r e = absurd (cc)
at_outside limit read (Some all) r e = within_outside (nat_lt limit (length all)) (read all) all _ r e

-- where no bytes were taken, no value was
pub takes_none : {A : Type 0} (limit : ℕ) (read : List ℕ → Said A) (name : List ℕ) (old new : FilesState) (why : Cause)
    → Takes (said_in limit all_of name) name old new (Err why) → Takes (said_in limit read name) name old new (Err why)
takes_none limit read name old new (Refused r) t = record { only = t.only; asked = t.asked; did = (t.did.0, λ seen. at_outside limit read (file_at old.held name) r (t.did.1 seen)) }
takes_none limit read name old new ReadFault t = record { only = t.only; asked = t.asked; did = t.did }
takes_none limit read name old new NoMemory t = record { only = t.only; asked = t.asked; did = tt }
takes_none limit read name old new Done t = elim t.did [ ]
takes_none limit read name old new Usage t = elim t.did [ ]
takes_none limit read name old new WriteFault t = elim t.did [ ]
takes_none limit read name old new LinkFault t = elim t.did [ ]
takes_none limit read name old new SpawnFault t = elim t.did [ ]
takes_none limit read name old new (NodesFailed h s) t = elim t.did [ ]

module _ {A : Type 0} (limit : ℕ) (read : List ℕ → Said A) (name bytes : List ℕ) (old new : FilesState) (t : Takes (said_in limit all_of name) name old new (Ok bytes)) where
  pub takes_refused : (cause : Cause) → Refuses (read bytes) cause → Takes (said_in limit read name) name old new (Err cause)
  takes_refused (Refused r) h = record { only = t.only; asked = t.asked; did = (h.0, λ seen. at_says limit read (file_at old.held name) bytes (t.did seen) ∙ h.1) }
  takes_refused NoMemory h = record { only = t.only; asked = t.asked; did = tt }
  takes_refused Done h = elim h [ ]
  takes_refused Usage h = elim h [ ]
  takes_refused ReadFault h = elim h [ ]
  takes_refused WriteFault h = elim h [ ]
  takes_refused LinkFault h = elim h [ ]
  takes_refused SpawnFault h = elim h [ ]
  takes_refused (NodesFailed host s) h = elim h [ ]

  -- a value that bytes say, or their refusal
  pub takes_read : (result : Result A Cause) → Reads (read bytes) result → Takes (said_in limit read name) name old new result
  takes_read (Ok v) e = record { only = t.only; asked = t.asked; did = λ seen. at_says limit read (file_at old.held name) bytes (t.did seen) ∙ e }
  takes_read (Err cause) h = takes_refused cause h
