-- Memory ran out.
use Rattle.cmd_make.proofs.Serving.{link_starves}
use Rattle.cmd_make.proofs.running.perform_link_service.Goals as goal

pub returns-in-Err : goal.returns-in-Err
returns-in-Err c = link_starves c.args.system.now c.serve_link.new.self c.args.at c.requires
