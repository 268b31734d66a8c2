-- Lines of a trace by what they say to the ends.
use Rattle.std.proofs.Common.{◌≡◌, ℕ, ◌<◌, ◌^◌, true, false, List, [], length, Option, Some, None, refl, sym, subst}
use Rattle.plan_base.specs.declared.ids.Host.{Host}
use Rattle.service_api.specs.declared.answer.Note.{Note}
use Rattle.service_api.specs.Services.{ServiceState}
use Rattle.node_core_spec.specs.declared.acts.Act.{Act}
use Rattle.node_core_spec.specs.declared.acts.Act.TheVariants as act
use Rattle.net_world_spec.specs.declared.lines.Line.{Line}
use Rattle.net_world_spec.specs.declared.lines.Line.TheVariants as line
use Rattle.reliable_ports_world.specs.Ports.{PortState, hears_note, hears_line}
use Rattle.reliable_ports_world.specs.declared.ports.Ports.{Ports}
use Rattle.reliable_ports_world.specs.declared.told.PortLine.TheVariants as told
use Rattle.reliable_ports_world.specs.Lines.{act_note, noted_at, note_in, is_nothing}
use Rattle.reliable_ports_world.specs.Told.{told_line, note_told, heard_told}
use Rattle.reliable_ports_world.specs.Limits.{FewAfter}
use Rattle.reliable_ports_world.specs.Stands.{Goes}

-- what a line does and says, by its note
abbrev Says : ℕ → Line → PortState → PortState → List ℕ → Type 0
Says n l s t told = (t ≡ hears_line l s) × (told ≡ heard_told n l s)

nothing_says : (n : ℕ) (l : Line) (s : PortState) → is_nothing l ≡ true → Says n l s s (told_line n told.Nothing)
nothing_says n line.Nothing s e = (refl, refl)
nothing_says n (line.At h x) s e = absurd cc
nothing_says n (line.Forged h f b) s e = absurd cc
nothing_says n (line.Wire k b) s e = absurd cc
nothing_says n (line.Off k) s e = absurd cc
nothing_says n (line.Again k) s e = absurd cc
nothing_says n (line.Lost w) s e = absurd cc

act_says : (n : ℕ) (h : Host) (x : Act) (s : PortState) → None ≡ act_note x → Says n (line.At h x) s s []
act_says n h (act.Noted x) s e = absurd cc
act_says n h _ s e = (refl, refl)

none_noted : (h : Host) (o : Option Note) → None ≡ noted_at h o → None ≡ o
none_noted h None e = refl
none_noted h (Some x) e = absurd cc

other_says : (n : ℕ) (l : Line) (s : PortState) → is_nothing l ≡ false → None ≡ note_in l → Says n l s s []
other_says n (line.At h x) s e f = act_says n h x s (none_noted h (act_note x) f)
other_says n line.Nothing s e f = absurd cc
other_says n _ s e f = (refl, refl)

noted_says : (n : ℕ) (h : Host) (x : Act) (s : PortState) (m : Host × Note) → Some m ≡ noted_at h (act_note x) → Says n (line.At h x) s (hears_note m.0 m.1 s) (note_told n m.0 m.1 s)
noted_says n h (act.Noted x) s m e = let same : (h, x) ≡ m = cc in (λ i. hears_note (sym same i).0 (sym same i).1 s, λ i. note_told n (sym same i).0 (sym same i).1 s)
noted_says n h _ s m e = absurd cc

note_says : (n : ℕ) (l : Line) (s : PortState) (m : Host × Note) → Some m ≡ note_in l → Says n l s (hears_note m.0 m.1 s) (note_told n m.0 m.1 s)
note_says n (line.At h x) s m e = noted_says n h x s m e
note_says n _ s m e = absurd cc

module _ {S : Type 0} (stands : S → ServiceState) (q : Ports S) (n : ℕ) (l : Line) (s : PortState) (old new : List ℕ) where
  abbrev Goes_to : PortState → List ℕ → Type 0
  Goes_to t told = Goes stands q t told old new

  says_goes : (t : PortState) (told : List ℕ) → Says n l s t told → Goes_to t told → Goes_to (hears_line l s) (heard_told n l s)
  says_goes t told e h = subst (λ (x : PortState). Goes_to x (heard_told n l s)) e.0 (subst (λ x. Goes_to t x) e.1 h)

  pub nothing_goes : is_nothing l ≡ true → Goes_to s (told_line n told.Nothing) → Goes_to (hears_line l s) (heard_told n l s)
  nothing_goes e k = says_goes s (told_line n told.Nothing) (nothing_says n l s e) k

  pub other_goes : is_nothing l ≡ false → None ≡ note_in l → Goes_to s [] → Goes_to (hears_line l s) (heard_told n l s)
  other_goes e f k = says_goes s [] (other_says n l s e f) k

  pub note_goes : (m : Host × Note) → Some m ≡ note_in l → Goes_to (hears_note m.0 m.1 s) (note_told n m.0 m.1 s) → Goes_to (hears_line l s) (heard_told n l s)
  note_goes m e k = says_goes (hears_note m.0 m.1 s) (note_told n m.0 m.1 s) (note_says n l s m e) k

-- what is delivered after a note
pub note_few : (l : Line) (s : PortState) (m : Host × Note) → Some m ≡ note_in l → FewAfter (hears_line l) s → FewAfter (hears_note m.0 m.1) s
note_few l s m e h = subst (λ (x : PortState). length x.receiver.delivered < 2 ^ 62) (sym (note_says 0 l s m e).0) h
