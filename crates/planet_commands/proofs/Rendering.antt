-- From what was read of a file to what a command made of it.
use Rattle.std.proofs.Common.{◌≡◌, ℕ, List, Result, Ok, Err, MatchResult, refl, sym, ap, subst, inl, inr}
use Rattle.node_io.specs.FileStates.{FilesState}
use Rattle.node_io.specs.Sinks.{SinkState}
use Rattle.planet_commands.specs.declared.status.Cause.{Cause}
use Rattle.planet_commands.specs.declared.status.Cause.TheVariants.{Done, Usage, Refused, ReadFault, WriteFault, LinkFault, SpawnFault, NoMemory, NodesFailed}
use Rattle.planet_commands.specs.Said.{Said, nothing, outside, says, said_in, said_then, all_of, SaysOf}
use Rattle.planet_commands.specs.Takes.{Refuses, Takes, TakesAndActs}
use Rattle.planet_commands.specs.Renders.{Prints, Renders, RendersBy}
use Rattle.planet_commands.proofs.Refusing.{then_refuses}
use Rattle.planet_commands.proofs.Taking.{takes_none, takes_read, takes_refused}

-- ---- inside a command

-- where there is no text nothing is written
pub renders_none : (said : Said (List ℕ)) (cause : Cause) (s : SinkState) → Refuses said cause → Renders said cause s s
renders_none said (Refused r) s h = (h, refl)
renders_none said NoMemory s h = inl refl
renders_none said Done s h = elim h [ ]
renders_none said Usage s h = elim h [ ]
renders_none said ReadFault s h = elim h [ ]
renders_none said WriteFault s h = elim h [ ]
renders_none said LinkFault s h = elim h [ ]
renders_none said SpawnFault s h = elim h [ ]
renders_none said (NodesFailed host n) s h = elim h [ ]

prints_says : (text : List ℕ) (cause : Cause) (a b : SinkState) → Prints text cause a b → Renders (says text) cause a b
prints_says text Done a b p = p
prints_says text WriteFault a b p = p
prints_says text NoMemory a b p = inr p
prints_says text Usage a b p = elim p [ ]
prints_says text (Refused r) a b p = elim p [ ]
prints_says text ReadFault a b p = elim p [ ]
prints_says text LinkFault a b p = elim p [ ]
prints_says text SpawnFault a b p = elim p [ ]
prints_says text (NodesFailed h s) a b p = elim p [ ]

-- where there is one it is printed
pub renders_text : (said : Said (List ℕ)) (text : List ℕ) (cause : Cause) (a b : SinkState) → said ≡ says text → Prints text cause a b → Renders said cause a b
renders_text said text cause a b e p = subst (λ s. Renders s cause a b) (sym e) (prints_says text cause a b p)

-- the text of a value is, and where there is no value nothing is
module _ {A : Type 0} (text : A → List ℕ) (said : Said A) (cause : Cause) where
  pub renders_value : (v : A) (a b : SinkState) → said ≡ says v → Prints (text v) cause a b → Renders (said_then said (λ x. says (text x))) cause a b
  renders_value v a b e p = renders_text (said_then said (λ x. says (text x))) (text v) cause a b (ap (λ s. said_then s (λ x. says (text x))) e) p

  pub renders_no_value : (s : SinkState) → Refuses said cause → Renders (said_then said (λ x. says (text x))) cause s s
  renders_no_value s h = renders_none (said_then said (λ x. says (text x))) cause s (then_refuses said (λ x. says (text x)) cause h)

-- ---- after the reading

module _ (limit : ℕ) (read : List ℕ → Said (List ℕ)) (name bytes : List ℕ) (files taken : FilesState) (old new : SinkState)
    (t : Takes (said_in limit all_of name) name files taken (Ok bytes)) where
  acts_for : (said : Said (List ℕ)) (cause : Cause) → read bytes ≡ said → SaysOf said (λ text. Prints text cause old new) → TakesAndActs (said_in limit read name) Prints name files taken cause old new
  acts_for (says text) cause e p = record { taken = Ok text; takes = takes_read limit read name bytes files taken t (Ok text) e; acts = p }
  acts_for (outside r) cause e p = elim p [ ]
  acts_for nothing cause e p = elim p [ ]

  -- what a command of one text did with the bytes that were taken
  taken_is_rendered : (cause : Cause) → Renders (read bytes) cause old new → TakesAndActs (said_in limit read name) Prints name files taken cause old new
  taken_is_rendered Done r = acts_for (read bytes) Done refl r
  taken_is_rendered WriteFault r = acts_for (read bytes) WriteFault refl r
  taken_is_rendered (Refused why) r = record { taken = Err (Refused why); takes = takes_refused limit read name bytes files taken t (Refused why) r.0; acts = (refl, r.1) }
  taken_is_rendered NoMemory (inl e) = record { taken = Err NoMemory; takes = takes_refused limit read name bytes files taken t NoMemory tt; acts = (refl, e) }
  taken_is_rendered NoMemory (inr r) = acts_for (read bytes) NoMemory refl r
  taken_is_rendered Usage r = elim r [ ]
  taken_is_rendered ReadFault r = elim r [ ]
  taken_is_rendered LinkFault r = elim r [ ]
  taken_is_rendered SpawnFault r = elim r [ ]
  taken_is_rendered (NodesFailed h s) r = elim r [ ]

-- what a command did with the bytes of its file it did with the text that these say
module _ (limit : ℕ) (read : List ℕ → Said (List ℕ)) (name : List ℕ) (files taken : FilesState) (cause : Cause) (old new : SinkState) where
  by_bytes : (r : Result (List ℕ) Cause) → Takes (said_in limit all_of name) name files taken r → MatchResult r (λ bytes. Renders (read bytes) cause old new) (λ why. (cause ≡ why) × (new ≡ old))
      → TakesAndActs (said_in limit read name) Prints name files taken cause old new
  by_bytes (Ok bytes) t p = taken_is_rendered limit read name bytes files taken old new t cause p
  by_bytes (Err why) t p = record { taken = Err why; takes = takes_none limit read name files taken why t; acts = p }

  pub text_is_rendered : TakesAndActs (said_in limit all_of name) (RendersBy read) name files taken cause old new → TakesAndActs (said_in limit read name) Prints name files taken cause old new
  text_is_rendered t = by_bytes t.taken t.takes t.acts
