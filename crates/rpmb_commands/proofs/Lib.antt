mod ObjectLemmas
mod Refused
mod Lines
mod KeyLemmas
mod DataLemmas
mod WholeText
