-- What a visit sees, by the struct that a walk goes by; no service's promise speaks of it.
use Rattle.std.specs.Prelude.{ℕ}
use Rattle.walk.specs.declared.Look.{Look}
use Rattle.walk.specs.declared.Walk.{Walk}
use Rattle.walk.specs.Walk.{sees}

abbrev pub sees_in : Walk → ℕ → ℕ → Look
sees_in w = sees w.constraints.now w.rows.now w.questions.now w.question
