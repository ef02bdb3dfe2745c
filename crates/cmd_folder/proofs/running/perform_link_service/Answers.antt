-- A link was snapped or refused, and its line was added or the output failed; or memory ran out.
use Rattle.cmd_folder.proofs.Serving.{link_lost, link_starves}
use Rattle.cmd_folder.proofs.running.perform_link_service.Goals as goal

pub returns-in-Failed : goal.returns-in-Failed
returns-in-Failed g c =
    link_lost c.args.output c.args.taken c.args.system.now c.serve_link.new.self c.in-Ok.note c.args.at c.args.block.now c.add_link_line.new.block _ _
    c.requires.next_event c.in-Ok.ensures c.in-Failed.ensures.adds

pub returns-in-Done-flush_block : goal.returns-in-Done-flush_block
returns-in-Done-flush_block g c =
    link_starves c.args.output c.args.taken c.args.system.now c.serve_link.new.self c.args.at c.args.block.now c.flush_block.new.block _ _
    c.requires.next_event c.in-Done-flush_block.ensures.puts
