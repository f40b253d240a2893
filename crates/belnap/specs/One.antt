-- What it is for a promise to leave one answer, and one content for a lent output (01, "What our promises must say": "two answers which both satisfy it
-- are equal"). A promise is a function's own `Post`: of lifetimes, the arguments, the answer, and the arguments as they are at exit.
use Rattle.std.specs.Prelude.{◌≡◌, List, ℕ}
use Rattle.std.specs.Borrow.{Bor, MutBor}

-- one answer, whatever the arguments
abbrev pub One : {K : Type 0} {X A E : K → Type 0} → ((κs : K) → X κs → A κs → E κs → Type 0) → Type 0
One {K} {X} {A} {E} P = (κs : K) (args : X κs) (exit : E κs) (a b : A κs) → P κs args a exit → P κs args b exit → a ≡ b

-- one answer and one content for the output, which is found among the arguments at exit
abbrev pub OneOutput : {K T : Type 0} {X A E : K → Type 0} → ((κs : K) → X κs → A κs → E κs → Type 0) →
    ((κs : K) → E κs → MutBor (List T)) → Type 0
OneOutput {K} {T} {X} {A} {E} P out =
    (κs : K) (args : X κs) (e f : E κs) (a b : A κs) → P κs args a e → P κs args b f → (a ≡ b) × ((out κs e).now ≡ (out κs f).now)

-- one part of a lent slice: the same bytes at the same place in memory
abbrev pub OnePart : {K : Type 0} {X E : K → Type 0} → ((κs : K) → X κs → Bor (List ℕ) → E κs → Type 0) → Type 0
OnePart {K} {X} {E} P =
    (κs : K) (args : X κs) (exit : E κs) (a b : Bor (List ℕ)) → P κs args a exit → P κs args b exit →
    (a.now ≡ b.now) × (a.ref_ptr ≡ b.ref_ptr)

-- one content, wherever in memory it stands: of an inner call that returns a part of a constant, whose place nothing can say
abbrev pub OneContent : {K : Type 0} {X E : K → Type 0} → ((κs : K) → X κs → Bor (List ℕ) → E κs → Type 0) → Type 0
OneContent {K} {X} {E} P =
    (κs : K) (args : X κs) (exit : E κs) (a b : Bor (List ℕ)) → P κs args a exit → P κs args b exit → a.now ≡ b.now
