mod Walking
mod Seeking
