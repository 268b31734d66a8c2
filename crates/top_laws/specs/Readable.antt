-- Which values are read again from their printed form.
use Rattle.std.specs.Prelude.{◌≡◌, ℕ, ℤ, suc, ◌<◌, ◌≤◌, Bool, List, [], ◌∷◌, length}
use Rattle.plan_base.specs.declared.ids.Host.{Host}
use Rattle.plan_base.specs.declared.ids.Dev.{Dev}
use Rattle.plan_base.specs.declared.tree.Ty.{Ty}
use Rattle.plan_base.specs.declared.tree.Ty.TheVariants as ty
use Rattle.plan_base.specs.declared.tree.Value.{Value, Value-F, out-Value}
use Rattle.program_text_laws.specs.Proper.{IsReadableType}
use Rattle.plan_base.specs.Sizes.{type_depth}

mutual
  -- a value of that type without a chunk in it, in which less than so many lists and tuples stand inside each other
  pub data IsReadable : ℕ → Value → Ty → Type 0 where
    unit : {room : ℕ} {v : Value} → out-Value v ≡ Value-F.Unit → IsReadable (suc room) v ty.Unit
    bool : {room : ℕ} {v : Value} (b : Bool) → out-Value v ≡ Value-F.Bool b → IsReadable (suc room) v ty.Bool
    int : {room : ℕ} {v : Value} (z : ℤ) → out-Value v ≡ Value-F.Int z → IsReadable (suc room) v ty.Int
    char : {room : ℕ} {v : Value} (c : ℕ) → out-Value v ≡ Value-F.Char c → IsReadable (suc room) v ty.Char
    str : {room : ℕ} {v : Value} (s : List ℕ) → out-Value v ≡ Value-F.Str s → IsReadable (suc room) v ty.Str
    blob : {room : ℕ} {v : Value} (b : List ℕ) → out-Value v ≡ Value-F.Blob b → IsReadable (suc room) v ty.Blob
    host : {room : ℕ} {v : Value} (h : Host) → out-Value v ≡ Value-F.Host h → IsReadable (suc room) v ty.Host
    dev : {room : ℕ} {v : Value} (d : Dev) → out-Value v ≡ Value-F.Dev d → IsReadable (suc room) v ty.Dev
    nil : {room : ℕ} {v : Value} (t : Ty) → out-Value v ≡ Value-F.List t [] → 0 < room → IsReadableType t → type_depth t ≤ room
        → IsReadable (suc room) v (ty.List t)
    list : {room : ℕ} {v : Value} (t : Ty) (w : Value) (ws : List Value) → out-Value v ≡ Value-F.List t (w ∷ ws) → 0 < room → length ws ≤ 62
        → IsReadable room w t → AreOfType room ws t → IsReadable (suc room) v (ty.List t)
    tuple : {room : ℕ} {v : Value} (a b : Value) (vs : List Value) (t u : Ty) (ts : List Ty) → out-Value v ≡ Value-F.Tuple (a ∷ b ∷ vs)
        → 0 < room → length vs ≤ 6
        → IsReadable room a t → IsReadable room b u → AreReadable room vs ts → IsReadable (suc room) v (ty.Tuple (t ∷ u ∷ ts))

  -- values of one type
  pub data AreOfType : ℕ → List Value → Ty → Type 0 where
    no_items : {room : ℕ} {t : Ty} → AreOfType room [] t
    and_item : {room : ℕ} {v : Value} {vs : List Value} {t : Ty} → IsReadable room v t → AreOfType room vs t → AreOfType room (v ∷ vs) t

  -- values of types in order
  pub data AreReadable : ℕ → List Value → List Ty → Type 0 where
    no_parts : {room : ℕ} → AreReadable room [] []
    and_part : {room : ℕ} {v : Value} {vs : List Value} {t : Ty} {ts : List Ty} → IsReadable room v t → AreReadable room vs ts
        → AreReadable room (v ∷ vs) (t ∷ ts)
