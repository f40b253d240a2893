-- Values of rows, each from those of the rows that it names: decisions, sets of decisions, and questions alike.
use Rattle.std.specs.Prelude.{◌≡◌, ℕ, zero, suc, ◌<◌, List, [], ◌∷◌, ◌++◌, get_or, length, take, drop}
use Rattle.entries.specs.declared.Entry.{Entry}
use Rattle.entries.specs.Entries.{blank}

-- "A row may name only rows with a lower number": an entry's value by the values before it; z where there is none
abbrev pub value_by : {A : Type 0} → (Entry → A → A → A) → A → Entry → List A → A
value_by f z e before = f e (get_or before e.a z) (get_or before e.b z)

-- the values of entries 0 to n-1, in order
unfoldable pub values : {A : Type 0} → (Entry → A → A → A) → A → List Entry → ℕ → List A
values f z es zero = []
values f z es (suc n) = values f z es n ++ (value_by f z (get_or es n blank) (values f z es n) ∷ [])

-- the value of entry i
unfoldable pub value_at : {A : Type 0} → (Entry → A → A → A) → A → List Entry → ℕ → A
value_at f z es i = value_by f z (get_or es i blank) (values f z es i)

-- The first n places filled in by a rule: "each" place has an answer of the rule to its entry and the values before it at its two numbers; z where there is
-- none. What stood behind them stands.
pub record FilledBy {A : Type 0} (answers : Entry → A → A → A → Type 0) (z : A) (es : List Entry) (n : ℕ) (old new : List A) : Type 0 where
  pub each : (i : ℕ) → i < n → let e = get_or es i blank in answers e (get_or (take i new) e.a z) (get_or (take i new) e.b z) (get_or new i z)
  pub behind : drop n new ≡ drop n old
  pub long : length new ≡ length old
