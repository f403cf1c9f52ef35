-- `labels::layout::fault` meets its contract: the length, byte 7, the label and the bytes after it;
-- the first that breaks the layout decides.
use Rattle.labels.proofs.Layouts.{fault-long, fault-spare, fault-ill, fault-tail, fault-none}
use Rattle.labels.proofs.layout.fault.Goals as goal

pub returns-then-size-gt88 : goal.returns-then-size-gt88
returns-then-size-gt88 c = fault-long c.args.bytes.now c.if-size-gt88.true

pub returns-then-bytes-ne0 : goal.returns-then-bytes-ne0
returns-then-bytes-ne0 c = fault-spare c.args.bytes.now c.if-size-gt88.false c.if-bytes-ne0.true

pub returns-then-ill-size : goal.returns-then-ill-size
returns-then-ill-size c = fault-ill c.args.bytes.now c.requires c.if-size-gt88.false c.if-bytes-ne0.false
    c.first_ill-ill.ensures c.if-ill-size.true

pub returns-in_err-set : goal.returns-in_err-set
returns-in_err-set c = rw c.from_residual.ensures
    (fault-none c.args.bytes.now c.requires c.if-size-gt88.false c.if-bytes-ne0.false c.first_ill-ill.ensures
    c.if-ill-size.false c.first_set.ensures c.in_err-set.was)

pub returns : goal.returns
returns c = fault-tail c.args.bytes.now c.requires c.if-size-gt88.false c.if-bytes-ne0.false
    c.first_ill-ill.ensures c.if-ill-size.false c.first_set.ensures c.in_ok-set.was
