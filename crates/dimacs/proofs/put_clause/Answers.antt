use Rattle.decimal.proofs.Stores.{put_then}
use Rattle.dimacs.proofs.put_clause.Goals as goal

pub returns-in-One : goal.returns-in-One
returns-in-One c = rw c.in-One.is (put_then _ _ c.put_literal-behind.ensures c.put_end.ensures)

pub returns-in-Two : goal.returns-in-Two
returns-in-Two c = rw c.in-Two.is (put_then _ _ c.put_literal-first.ensures (put_then _ _ c.put_literal-second.ensures c.put_end-in-Two.ensures))

pub returns-in-Three : goal.returns-in-Three
returns-in-Three c =
    rw c.in-Three.is (put_then _ _ c.put_literal-first-in-Three.ensures
    (put_then _ _ c.put_literal-second-in-Three.ensures (put_then _ _ c.put_literal-third.ensures c.put_end-in-Three.ensures)))
