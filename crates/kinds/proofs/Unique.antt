-- Each public call's promise leaves one answer (belnap/specs/One.antt). Stated of the promises themselves, so that one that says less is refused here.
-- Assumes nothing.
use mathlib.Core.Path.{◌≡◌, ap, ap₂}
use Prim.Native.Nat.{ℕ, ◌-◌, ◌≤◌}
use native.Mathlib.Omega.{arith}
use lib.ListN.{length, drop, length-drop}
use lib.Seq.{length-take-le}
use borrow.Author.Tests.{eqb-true}
use Rattle.std.specs.Prelude.{slice_range}
use Rattle.belnap.specs.One.{One, OneOutput, OneContent}
use Rattle.belnap.proofs.Unique.{by_definition}
use Rattle.kinds.specs.Words.{letters}
use Rattle.kinds.proofs.kind_of.Reads as kind_of
use Rattle.kinds.proofs.form_of.Reads as form_of
use Rattle.kinds.proofs.of_row.Reads as of_row
use Rattle.kinds.proofs.as_row.Reads as as_row
use Rattle.kinds.proofs.as_question.Reads as as_question
use Rattle.kinds.proofs.words.place_of.Reads as place_of
use Rattle.kinds.proofs.words.word_of.Reads as word_of
use Rattle.kinds.proofs.words.word_size.Reads as word_size
use Rattle.kinds.proofs.words.put_word.Reads as put_word
use Rattle.kinds.proofs.words.kind_of_word.Reads as kind_of_word

pub one_announced : One kind_of.Post
one_announced κs args exit = by_definition

pub one_form : One form_of.Post
one_form κs args exit = by_definition

pub one_of_row : One of_row.Post
one_of_row κs args exit = by_definition

pub one_row_kind : One as_row.Post
one_row_kind κs args exit = by_definition

pub one_question_kind : One as_question.Post
one_question_kind κs args exit = by_definition

-- a word's start is said, and it ends as much further as it is long
between : (start end : ℕ) → end ≤ length letters → length (slice_range letters start end) ≡ end - start
between start end h = length-take-le (end - start) (drop start letters) (omega (arith, length-drop start letters, h))

pub one_place : One place_of.Post
one_place κs args exit a b p q =
    let start = by_definition a.0 b.0 (eqb-true _ _ p.0) (eqb-true _ _ q.0) in
    let long = ap length (by_definition _ _ p.1.2 q.1.2) in
    ap₂ (λ s e. (s, e)) start (omega (arith, start, long, between a.0 a.1 p.1.1, between b.0 b.1 q.1.1, p.1.0, q.1.0))

pub one_word_size : One word_size.Post
one_word_size κs args exit = by_definition

-- an inner call, which returns a part of a constant
pub one_word : OneContent word_of.Post
one_word κs args exit a b = by_definition a.now b.now

pub one_word_put : OneOutput put_word.Post (λ κs exit. exit.0)
one_word_put κs args e f a b p q = (by_definition a b p.0 q.0, by_definition _ _ p.1 q.1)

pub one_spelled : One kind_of_word.Post
one_spelled κs args exit = by_definition
