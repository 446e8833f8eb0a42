mod Printing
mod MadeLemmas
mod WriteLemmas
mod AskLemmas
mod ChainLemmas
mod FindLemmas
