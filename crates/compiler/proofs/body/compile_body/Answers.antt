-- `body::compile_body` meets its contract: the body's rows are stored, then its sink's behind them. Assumes nothing.
use Rattle.compiler.proofs.BodySink.{body-accepted, body-done}
use Rattle.compiler.proofs.body.compile_body.Goals as goal

pub compile_expression-body-requires : goal.compile_expression-body-requires
compile_expression-body-requires c = let pre = c.requires in (pre.0, body-accepted pre.1)

pub returns : goal.returns
returns c = λ l b.
    let given = c.compile_expression-body.ensures l (body-accepted b) in
    body-done b _ _ _ _ _ given.0 given.1 c.put_sink.ensures
