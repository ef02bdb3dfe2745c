-- A program that asks for a reference continues by its reply.
use Rattle.m36_ea.proofs.Runs.{run_ask, run_done}

pub ruleset reaching = (run_ask, run_done)
