-- Of the elements of a list: whether some one is so, and whether every one is.
use Rattle.std.specs.Prelude.{Bool, true, false, ◌&&◌, ◌||◌, List, [], ◌∷◌}

abbrev pub some : {A : Type 0} → (A → Bool) → List A → Bool
some is [] = false
some is (x ∷ more) = is x || some is more

abbrev pub every : {A : Type 0} → (A → Bool) → List A → Bool
every is [] = true
every is (x ∷ more) = is x && every is more
