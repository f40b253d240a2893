use Rattle.strike.proofs.Filling.{first_fits, second_fits, third_fits, all_stand}
use Rattle.strike.proofs.Taken.{taken, left_of, asked_of, struck_taken, as_many}
use Rattle.strike.proofs.write.Goals as goal

pub keep-kept-requires : goal.keep-kept-requires
keep-kept-requires c =
    let t = c.args.t.now in
    let r = c.args.r in
    first_fits (taken t).constraints (left_of t r) (asked_of t r) c.args.out.now (rw (struck_taken t r c.requires.0) at c.requires.1)

pub put_rows-requires : goal.put_rows-requires
put_rows-requires c =
    let t = c.args.t.now in
    let r = c.args.r in
    let one = c.keep-kept.ensures in (
      as_many t c.requires.0,
      second_fits (taken t).constraints (left_of t r) (asked_of t r) c.args.out.now (rw (struck_taken t r c.requires.0) at c.requires.1)
          c.keep-kept.result c.keep-kept.new.out one.0 one.1,
    )

pub put_questions-requires : goal.put_questions-requires
put_questions-requires c =
    let t = c.args.t.now in
    let r = c.args.r in
    let one = c.keep-kept.ensures in
    let two = c.put_rows.ensures in
    third_fits (taken t).constraints (left_of t r) (asked_of t r) c.args.out.now (rw (struck_taken t r c.requires.0) at c.requires.1)
    c.keep-kept.result c.keep-kept.new.out one.0 one.1 c.put_rows.result c.put_rows.new.out two.0 two.1

pub returns : goal.returns
returns c =
    let t = c.args.t.now in
    let r = c.args.r in
    let one = c.keep-kept.ensures in
    let two = c.put_rows.ensures in
    let three = c.put_questions.ensures in
    rw (struck_taken t r c.requires.0)
    (all_stand (taken t).constraints (left_of t r) (asked_of t r) c.args.out.now (rw (struck_taken t r c.requires.0) at c.requires.1)
    c.keep-kept.result c.keep-kept.new.out one.0 one.1 c.put_rows.result c.put_rows.new.out two.0 two.1
    c.put_questions.result c.put_questions.new.out three.0 three.1)
