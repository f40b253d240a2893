-- What a call says: its answer, or a refusal with its number and place (01, "When we say no").
use Rattle.std.specs.Prelude.{ℕ, zero, suc, Option, Some, None, Result, Ok, Err}
use Rattle.entries.specs.declared.refusals.Refusal.{Refusal as Coded}
use Rattle.entries.specs.Refusals.{number_of}

-- a refusal as 01 gives it: its number and its place
pub record Refusal : Type 0 where
  pub number : ℕ
  pub place : ℕ

pub data Said (A : Type 0) : Type 0 where
  answered : A → Said A
  refusing : Refusal → Said A

-- a refusal by its number and place
abbrev pub refusal : ℕ → ℕ → Refusal
refusal number place = record { number = number; place = place }

-- what the code's result says: its refusals are 01's by their numbers
abbrev pub told : Coded → Refusal
told why = refusal (number_of why.reason) why.place

abbrev pub said : {A : Type 0} → Result A Coded → Said A
said (Ok v) = answered v
said (Err why) = refusing (told why)

-- the refusal that is said; its number is 0 where there is none
abbrev pub why_of : {A : Type 0} → Said A → Refusal
why_of (answered v) = refusal 0 0
why_of (refusing why) = why

-- and of the code's refusal, where there is one
abbrev pub told_or_none : Option Coded → Refusal
told_or_none None = refusal 0 0
told_or_none (Some why) = told why

-- what is said of an answer; a refusal is passed on
abbrev pub and_then : {A B : Type 0} → Said A → (A → Said B) → Said B
and_then (answered v) f = f v
and_then (refusing why) f = refusing why

-- a refusal's number, at 0; where it is 0 there is none, and the rest speaks
abbrev pub unless : {A : Type 0} → ℕ → Said A → Said A
unless zero rest = rest
unless (suc n) rest = refusing (refusal (suc n) 0)

-- the first of two such numbers that is a refusal's
abbrev pub or_else : ℕ → ℕ → ℕ
or_else zero m = m
or_else (suc n) m = suc n
