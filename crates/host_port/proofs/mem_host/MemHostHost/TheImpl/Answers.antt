use Rattle.std.proofs.Common.{rules}
use Rattle.host_port.proofs.Opening.{opens_told, opens_cause, puts_told}
use Rattle.host_port.proofs.mem_host.MemHostHost.TheImpl.Goals as goal

pub open_input-tells : goal.open_input-tells
open_input-tells c = record {
  ok = opens_told _ _ _ c.result c.ensures.law;
  err = search rules;
  frame = search rules;
  faults = search rules;
  cause = opens_cause _ _ _ c.result c.ensures.law;
}

pub put-tells : goal.put-tells
put-tells c = record {
  ok = puts_told _ _ _ _ c.result c.ensures.law;
  err = search rules;
  frame = search rules;
  faults = search rules;
  cause = search rules;
}
