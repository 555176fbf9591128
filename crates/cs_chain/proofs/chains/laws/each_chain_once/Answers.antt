-- A chain shows both of its context goals, and the list of context goals has each of them once.
use Rattle.cs_chain.proofs.OnChains.Exact.{chains_once, chains_exact}
use Rattle.cs_chain.proofs.chains.laws.each_chain_once.Goals as goal

pub returns-clause-once : goal.returns-clause-once
returns-clause-once c g = chains_once g

pub returns-clause-all : goal.returns-clause-all
returns-clause-all c g chain = chains_exact g chain
